use Rattle.std.proofs.Common.{sym, subst}
use Rattle.coco_ast.specs.Tree as tree
use Rattle.coco_parse.specs.Machine.{with_statement}
use Rattle.coco_parse.specs.Steps.{Stands}
use Rattle.coco_parse.proofs.Steps.{exit_same}
use Rattle.coco_ast.proofs.Trees.{statement-reply}
use Rattle.coco_parse.proofs.state.Parser.behind_reply.Goals as goal

pub returns-in_err-value-clause-reads : goal.returns-in_err-value-clause-reads
returns-in_err-value-clause-reads c ss k s = exit_same _ _ _ _ c.from_residual.ensures.1 (c.in_err-value.ensures.reads (λ e. with_statement ss k (tree.Reply e)) s)

pub returns-clause-reads : goal.returns-clause-reads
returns-clause-reads c ss k s = subst (λ t. Stands c.args.self.now c.expression.new.cursor (with_statement ss k t)) (sym (statement-reply c.in_ok-value.value)) (c.in_ok-value.ensures.reads (λ e. with_statement ss k (tree.Reply e)) s)
