use Rattle.std.proofs.Common.{ℕ, List, []}
use Rattle.coco_ast.specs.Tree.{Expression}
use Rattle.coco_parse.specs.Machine.{Fixed, Operand, BracketMark, EndBracketMark}
use Rattle.coco_parse.proofs.Steps.{exit_same, exit_refused}
use Rattle.coco_parse.proofs.state.Parser.place.Goals as goal

pub returns-in_err-table-clause-reads : goal.returns-in_err-table-clause-reads
returns-in_err-table-clause-reads c k s = exit_refused _ _ c.args.self.now _ c.from_residual.ensures.1 (c.in_err-table.ensures.reads (λ t. Fixed BracketMark (Operand [] EndBracketMark (λ e. k (record { table = t; row = e })))) s)

pub returns-in_err-mark-clause-reads : goal.returns-in_err-mark-clause-reads
returns-in_err-mark-clause-reads c k s =
    let row = λ (t : List ℕ) (e : Expression). k (record { table = t; row = e }) in
    let named = c.in_ok-table.ensures.reads (λ t. Fixed BracketMark (Operand [] EndBracketMark (row t))) s in
    exit_refused _ _ c.args.self.now _ c.from_residual-in_err-mark.ensures.1 (c.in_err-mark.ensures.reads (Operand [] EndBracketMark (row c.in_ok-table.table)) named)

pub returns-in_err-row-clause-reads : goal.returns-in_err-row-clause-reads
returns-in_err-row-clause-reads c k s =
    let row = λ (t : List ℕ) (e : Expression). k (record { table = t; row = e }) in
    let named = c.in_ok-table.ensures.reads (λ t. Fixed BracketMark (Operand [] EndBracketMark (row t))) s in
    let opened = c.in_ok-mark.ensures.reads (Operand [] EndBracketMark (row c.in_ok-table.table)) named in
    exit_same _ _ _ _ c.from_residual-in_err-row.ensures.1 (c.in_err-row.ensures.reads (row c.in_ok-table.table) opened)

pub returns-clause-reads : goal.returns-clause-reads
returns-clause-reads c k s =
    let row = λ (t : List ℕ) (e : Expression). k (record { table = t; row = e }) in
    let named = c.in_ok-table.ensures.reads (λ t. Fixed BracketMark (Operand [] EndBracketMark (row t))) s in
    let opened = c.in_ok-mark.ensures.reads (Operand [] EndBracketMark (row c.in_ok-table.table)) named in
    c.in_ok-row.ensures.reads (row c.in_ok-table.table) opened
