use Rattle.coco_ast.specs.Tree as tree
use Rattle.coco_parse.specs.Machine.{Fixed, SemicolonMark, with_statement}
use Rattle.std.proofs.Common.{sym, subst}
use Rattle.coco_parse.specs.Steps.{Stands}
use Rattle.coco_ast.proofs.Trees.{statement-refuse}
use Rattle.coco_parse.proofs.Steps.{exit_refused}
use Rattle.coco_parse.proofs.state.Parser.behind_refuse.Goals as goal

pub returns-in_err-code-clause-reads : goal.returns-in_err-code-clause-reads
returns-in_err-code-clause-reads c ss k s = exit_refused _ _ c.args.self.now _ c.from_residual.ensures.1 (c.in_err-code.ensures.reads (λ n. Fixed SemicolonMark (with_statement ss k (tree.Refuse n))) s)

pub returns-in_err-mark-clause-reads : goal.returns-in_err-mark-clause-reads
returns-in_err-mark-clause-reads c ss k s = exit_refused _ _ c.args.self.now _ c.from_residual-in_err-mark.ensures.1 (c.in_err-mark.ensures.reads (with_statement ss k (tree.Refuse c.in_ok-code.code)) (c.in_ok-code.ensures.reads (λ n. Fixed SemicolonMark (with_statement ss k (tree.Refuse n))) s))

pub returns-clause-reads : goal.returns-clause-reads
returns-clause-reads c ss k s = subst (λ t. Stands c.args.self.now c.mark.new.cursor (with_statement ss k t)) (sym (statement-refuse c.in_ok-code.code)) (c.in_ok-mark.ensures.reads (with_statement ss k (tree.Refuse c.in_ok-code.code)) (c.in_ok-code.ensures.reads (λ n. Fixed SemicolonMark (with_statement ss k (tree.Refuse n))) s))
