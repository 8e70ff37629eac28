use Rattle.std.proofs.Common.{sym, subst}
use Rattle.coco_ast.specs.Tree as tree
use Rattle.coco_parse.specs.Machine.{with_statement}
use Rattle.coco_parse.specs.Steps.{Stands}
use Rattle.coco_parse.proofs.Steps.{exit_same}
use Rattle.coco_ast.proofs.Trees.{statement-delete}
use Rattle.coco_parse.proofs.state.Parser.behind_delete.Goals as goal

pub returns-in_err-place-clause-reads : goal.returns-in_err-place-clause-reads
returns-in_err-place-clause-reads c ss k s = exit_same _ _ _ _ c.from_residual.ensures.1 (c.in_err-place.ensures.reads (λ p. with_statement ss k (tree.Delete p)) s)

pub returns-clause-reads : goal.returns-clause-reads
returns-clause-reads c ss k s = subst (λ t. Stands c.args.self.now c.ended_place.new.cursor (with_statement ss k t)) (sym (statement-delete c.in_ok-place.place)) (c.in_ok-place.ensures.reads (λ p. with_statement ss k (tree.Delete p)) s)
