use Rattle.std.proofs.Common.{sym, subst}
use Rattle.coco_ast.specs.Tree.{Expression, RowPlace, Let, Get}
use Rattle.coco_parse.specs.Machine.{with_statement}
use Rattle.coco_parse.specs.Steps.{Stands}
use Rattle.coco_parse.proofs.Choices.{chooses_get}
use Rattle.coco_parse.proofs.Steps.{exit_same, exit_refused, chosen_true, chosen_false}
use Rattle.coco_ast.proofs.Trees.{statement-let, statement-get}
use Rattle.coco_parse.proofs.state.Parser.behind_assign.Goals as goal

pub returns-in_err-gets-clause-reads : goal.returns-in_err-gets-clause-reads
returns-in_err-gets-clause-reads c ss k s =
    let choice = chooses_get (λ e. with_statement ss k (Let c.args.name e)) (λ p. with_statement ss k (Get c.args.name p)) in
    exit_refused _ _ c.args.self.now _ c.from_residual.ensures.1 (c.in_err-gets.ensures.reads _ _ _ choice s)

pub returns-in_err-place-clause-reads : goal.returns-in_err-place-clause-reads
returns-in_err-place-clause-reads c ss k s =
    let get = λ (p : RowPlace). with_statement ss k (Get c.args.name p) in
    let taken = c.in_ok-gets.ensures.reads _ _ _ (chooses_get (λ e. with_statement ss k (Let c.args.name e)) get) s in
    exit_same _ _ _ _ c.from_residual-in_err-place.ensures.1 (c.in_err-place.ensures.reads get (chosen_true _ _ _ _ _ c.if-gets.true taken))

pub returns-then-gets-clause-reads : goal.returns-then-gets-clause-reads
returns-then-gets-clause-reads c ss k s =
    let get = λ (p : RowPlace). with_statement ss k (Get c.args.name p) in
    let taken = c.in_ok-gets.ensures.reads _ _ _ (chooses_get (λ e. with_statement ss k (Let c.args.name e)) get) s in
    subst (λ t. Stands c.args.self.now c.ended_place.new.cursor (with_statement ss k t)) (sym (statement-get c.args.name c.in_ok-place.place)) (c.in_ok-place.ensures.reads get (chosen_true _ _ _ _ _ c.if-gets.true taken))

pub returns-in_err-value-clause-reads : goal.returns-in_err-value-clause-reads
returns-in_err-value-clause-reads c ss k s =
    let set = λ (e : Expression). with_statement ss k (Let c.args.name e) in
    let taken = c.in_ok-gets.ensures.reads _ _ _ (chooses_get set (λ p. with_statement ss k (Get c.args.name p))) s in
    exit_same _ _ _ _ c.from_residual-in_err-value.ensures.1 (c.in_err-value.ensures.reads set (chosen_false _ _ _ _ _ c.if-gets.false taken))

pub returns-clause-reads : goal.returns-clause-reads
returns-clause-reads c ss k s =
    let set = λ (e : Expression). with_statement ss k (Let c.args.name e) in
    let taken = c.in_ok-gets.ensures.reads _ _ _ (chooses_get set (λ p. with_statement ss k (Get c.args.name p))) s in
    subst (λ t. Stands c.args.self.now c.expression.new.cursor (with_statement ss k t)) (sym (statement-let c.args.name c.in_ok-value.value)) (c.in_ok-value.ensures.reads set (chosen_false _ _ _ _ _ c.if-gets.false taken))
