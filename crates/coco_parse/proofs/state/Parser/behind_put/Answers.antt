use Rattle.std.proofs.Common.{[], sym, subst}
use Rattle.coco_ast.specs.Tree.{RowPlace, Expression}
use Rattle.coco_ast.specs.Tree as tree
use Rattle.coco_ast.specs.Views.{place_of}
use Rattle.coco_parse.specs.Machine.{Fixed, Operand, AssignMark, SemicolonMark, with_statement}
use Rattle.coco_parse.specs.Steps.{Stands}
use Rattle.coco_parse.proofs.Steps.{exit_same, exit_refused}
use Rattle.coco_ast.proofs.Trees.{statement-put}
use Rattle.coco_parse.proofs.state.Parser.behind_put.Goals as goal

pub returns-in_err-place-clause-reads : goal.returns-in_err-place-clause-reads
returns-in_err-place-clause-reads c ss k s = exit_same _ _ _ _ c.from_residual.ensures.1 (c.in_err-place.ensures.reads (λ p. Fixed AssignMark (Operand [] SemicolonMark (λ e. with_statement ss k (tree.Put p e)))) s)

pub returns-in_err-mark-clause-reads : goal.returns-in_err-mark-clause-reads
returns-in_err-mark-clause-reads c ss k s =
    let p = place_of c.in_ok-place.place in
    let placed = c.in_ok-place.ensures.reads (λ p. Fixed AssignMark (Operand [] SemicolonMark (λ e. with_statement ss k (tree.Put p e)))) s in
    exit_refused _ _ c.args.self.now _ c.from_residual-in_err-mark.ensures.1 (c.in_err-mark.ensures.reads (Operand [] SemicolonMark (λ e. with_statement ss k (tree.Put p e))) placed)

pub returns-in_err-value-clause-reads : goal.returns-in_err-value-clause-reads
returns-in_err-value-clause-reads c ss k s =
    let p = place_of c.in_ok-place.place in
    let placed = c.in_ok-place.ensures.reads (λ p. Fixed AssignMark (Operand [] SemicolonMark (λ e. with_statement ss k (tree.Put p e)))) s in
    let assigned = c.in_ok-mark.ensures.reads (Operand [] SemicolonMark (λ e. with_statement ss k (tree.Put p e))) placed in
    exit_same _ _ _ _ c.from_residual-in_err-value.ensures.1 (c.in_err-value.ensures.reads (λ e. with_statement ss k (tree.Put p e)) assigned)

pub returns-clause-reads : goal.returns-clause-reads
returns-clause-reads c ss k s =
    let p = place_of c.in_ok-place.place in
    let placed = c.in_ok-place.ensures.reads (λ p. Fixed AssignMark (Operand [] SemicolonMark (λ e. with_statement ss k (tree.Put p e)))) s in
    let assigned = c.in_ok-mark.ensures.reads (Operand [] SemicolonMark (λ e. with_statement ss k (tree.Put p e))) placed in
    subst (λ t. Stands c.args.self.now c.expression.new.cursor (with_statement ss k t)) (sym (statement-put c.in_ok-place.place c.in_ok-value.value)) (c.in_ok-value.ensures.reads (λ e. with_statement ss k (tree.Put p e)) assigned)
