use Rattle.std.proofs.Common.{ℕ, List, [], ◌∷◌, ◌++◌, sym, subst}
use Rattle.coco_ast.specs.Tree.{Procedure, Statements}
use Rattle.coco_ast.specs.Views.{statements_of}
use Rattle.coco_parse.specs.Machine.{Goal, Fixed, Items, Params, ParenMark, in_braces}
use Rattle.coco_parse.specs.Steps.{Stands}
use Rattle.coco_parse.proofs.Steps.{exit_same, exit_refused}
use Rattle.coco_parse.proofs.state.Parser.procedure.Goals as goal

abbrev done : List (List ℕ) → List Procedure → List ℕ → List (List ℕ) → Statements → Goal
done ts ps name params body = Items ts (ps ++ record { name = name; params = params; body = body } ∷ [])

abbrev headed : List (List ℕ) → List Procedure → List ℕ → Goal
headed ts ps name = Fixed ParenMark (Params (λ params. in_braces (done ts ps name params)))

pub returns-in_err-name-clause-reads : goal.returns-in_err-name-clause-reads
returns-in_err-name-clause-reads c ts ps s = exit_refused _ _ c.args.self.now _ c.from_residual.ensures.1 (c.in_err-name.ensures.reads (headed ts ps) s)

pub returns-in_err-mark-clause-reads : goal.returns-in_err-mark-clause-reads
returns-in_err-mark-clause-reads c ts ps s =
    let name = c.in_ok-name.name in
    let named = c.in_ok-name.ensures.reads (headed ts ps) s in
    exit_refused _ _ c.args.self.now _ c.from_residual-in_err-mark.ensures.1 (c.in_err-mark.ensures.reads (Params (λ params. in_braces (done ts ps name params))) named)

pub returns-in_err-params-clause-reads : goal.returns-in_err-params-clause-reads
returns-in_err-params-clause-reads c ts ps s =
    let name = c.in_ok-name.name in
    let named = c.in_ok-name.ensures.reads (headed ts ps) s in
    let opened = c.in_ok-mark.ensures.reads (Params (λ params. in_braces (done ts ps name params))) named in
    exit_same _ _ _ _ c.from_residual-in_err-params.ensures.1 (c.in_err-params.ensures.reads (λ params. in_braces (done ts ps name params)) opened)

pub returns-in_err-body-clause-reads : goal.returns-in_err-body-clause-reads
returns-in_err-body-clause-reads c ts ps s =
    let name = c.in_ok-name.name in
    let named = c.in_ok-name.ensures.reads (headed ts ps) s in
    let opened = c.in_ok-mark.ensures.reads (Params (λ params. in_braces (done ts ps name params))) named in
    let listed = c.in_ok-params.ensures.reads (λ params. in_braces (done ts ps name params)) opened in
    exit_same _ _ _ _ c.from_residual-in_err-body.ensures.1 (c.in_err-body.ensures.reads (done ts ps name c.in_ok-params.params.items) listed)

pub returns-clause-reads : goal.returns-clause-reads
returns-clause-reads c ts ps s =
    let name = c.in_ok-name.name in
    let named = c.in_ok-name.ensures.reads (headed ts ps) s in
    let opened = c.in_ok-mark.ensures.reads (Params (λ params. in_braces (done ts ps name params))) named in
    let listed = c.in_ok-params.ensures.reads (λ params. in_braces (done ts ps name params)) opened in
    let ended = c.in_ok-body.ensures.reads (done ts ps name c.in_ok-params.params.items) listed in
    subst (λ names. Stands c.args.self.now c.block.new.cursor (done ts ps name names (statements_of c.in_ok-body.body.items))) (sym c.from_vec.ensures) ended
