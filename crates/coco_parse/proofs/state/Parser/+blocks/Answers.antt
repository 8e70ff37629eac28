use Rattle.std.proofs.Common.{[], map, sym, subst, arith}
use Rattle.coco_ast.specs.Tree.{Expression, Statement, Statements}
use Rattle.coco_ast.specs.Tree as tree
use Rattle.coco_ast.specs.Views.{expression_of, statement_of, statements_of}
use Rattle.coco_parse.specs.Machine.{Fixed, Named, Within, Tested, AsMark, in_braces, with_statement}
use Rattle.coco_parse.specs.Steps.{Stands, behind_head}
use Rattle.coco_parse.proofs.Choices.{chooses_else}
use Rattle.coco_parse.proofs.Steps.{exit_same, exit_refused, chosen_true, chosen_false, headed}
use Rattle.coco_ast.proofs.Trees.{statement-if, statement-if_else, statement-repeat, statements-push}
use Rattle.coco_parse.proofs.state.Parser.+blocks.Goals as goal

pub behind_if-returns-in_err-test-clause-reads : goal.behind_if-returns-in_err-test-clause-reads
behind_if-returns-in_err-test-clause-reads t c ss k s = exit_same _ _ _ _ c.from_residual.ensures.1 (c.in_err-test.ensures.reads (λ e. Within [] (λ body. Tested e body ss k)) s)

pub behind_if-returns-in_err-yes-clause-reads : goal.behind_if-returns-in_err-yes-clause-reads
behind_if-returns-in_err-yes-clause-reads t c ss k s =
    let tested = c.in_ok-test.ensures.reads (λ e. Within [] (λ body. Tested e body ss k)) s in
    exit_same _ _ _ _ c.from_residual-in_err-yes.ensures.1 (c.in_err-yes.ensures.reads (λ body. Tested (expression_of c.in_ok-test.test) body ss k) tested)

pub behind_if-returns-clause-reads : goal.behind_if-returns-clause-reads
behind_if-returns-clause-reads t c ss k s =
    let tested = c.in_ok-test.ensures.reads (λ e. Within [] (λ body. Tested e body ss k)) s in
    c.behind_block.ensures.reads ss k (c.in_ok-yes.ensures.reads (λ body. Tested (expression_of c.in_ok-test.test) body ss k) tested)

pub behind_block-returns-in_err-has_other-clause-reads : goal.behind_block-returns-in_err-has_other-clause-reads
behind_block-returns-in_err-has_other-clause-reads t c ss k s =
    exit_refused _ _ c.args.self.now _ c.from_residual.ensures.1 (c.in_err-has_other.ensures.reads _ _ _ (chooses_else (expression_of c.args.test) (statements_of c.args.yes.items) ss k) s)

pub behind_block-returns-in_err-other-clause-reads : goal.behind_block-returns-in_err-other-clause-reads
behind_block-returns-in_err-other-clause-reads t c ss k s =
    let e = expression_of c.args.test in
    let body = statements_of c.args.yes.items in
    let taken = c.in_ok-has_other.ensures.reads _ _ _ (chooses_else e body ss k) s in
    exit_same _ _ _ _ c.from_residual-in_err-other.ensures.1 (c.in_err-other.ensures.reads (λ other. with_statement ss k (tree.IfElse e body other)) (chosen_true _ _ _ _ _ c.if-has_other.true taken))

pub behind_block-returns-then-has_other-clause-reads : goal.behind_block-returns-then-has_other-clause-reads
behind_block-returns-then-has_other-clause-reads t c ss k s =
    let e = expression_of c.args.test in
    let body = statements_of c.args.yes.items in
    let taken = c.in_ok-has_other.ensures.reads _ _ _ (chooses_else e body ss k) s in
    subst (λ t. Stands c.args.self.now c.block.new.cursor (with_statement ss k t)) (sym (statement-if_else c.args.test c.args.yes c.in_ok-other.other))
    (c.in_ok-other.ensures.reads (λ other. with_statement ss k (tree.IfElse e body other)) (chosen_true _ _ _ _ _ c.if-has_other.true taken))

pub behind_block-returns-clause-reads : goal.behind_block-returns-clause-reads
behind_block-returns-clause-reads t c ss k s =
    let taken = c.in_ok-has_other.ensures.reads _ _ _ (chooses_else (expression_of c.args.test) (statements_of c.args.yes.items) ss k) s in
    subst (λ t. Stands c.args.self.now c.takes.new.cursor (with_statement ss k t)) (sym (statement-if c.args.test c.args.yes)) (chosen_false _ _ _ _ _ c.if-has_other.false taken)

pub behind_repeat-returns-in_err-bound-clause-reads : goal.behind_repeat-returns-in_err-bound-clause-reads
behind_repeat-returns-in_err-bound-clause-reads t c ss k s = exit_refused _ _ c.args.self.now _ c.from_residual.ensures.1 (c.in_err-bound.ensures.reads (λ n. Fixed AsMark (Named (λ x. in_braces (λ body. with_statement ss k (tree.Repeat n x body))))) s)

pub behind_repeat-returns-in_err-mark-clause-reads : goal.behind_repeat-returns-in_err-mark-clause-reads
behind_repeat-returns-in_err-mark-clause-reads t c ss k s =
    let n = c.in_ok-bound.bound in
    let counted = c.in_ok-bound.ensures.reads (λ n. Fixed AsMark (Named (λ x. in_braces (λ body. with_statement ss k (tree.Repeat n x body))))) s in
    exit_refused _ _ c.args.self.now _ c.from_residual-in_err-mark.ensures.1 (c.in_err-mark.ensures.reads (Named (λ x. in_braces (λ body. with_statement ss k (tree.Repeat n x body)))) counted)

pub behind_repeat-returns-in_err-name-clause-reads : goal.behind_repeat-returns-in_err-name-clause-reads
behind_repeat-returns-in_err-name-clause-reads t c ss k s =
    let n = c.in_ok-bound.bound in
    let counted = c.in_ok-bound.ensures.reads (λ n. Fixed AsMark (Named (λ x. in_braces (λ body. with_statement ss k (tree.Repeat n x body))))) s in
    let marked = c.in_ok-mark.ensures.reads (Named (λ x. in_braces (λ body. with_statement ss k (tree.Repeat n x body)))) counted in
    exit_refused _ _ c.args.self.now _ c.from_residual-in_err-name.ensures.1 (c.in_err-name.ensures.reads (λ x. in_braces (λ body. with_statement ss k (tree.Repeat n x body))) marked)

pub behind_repeat-returns-in_err-block-clause-reads : goal.behind_repeat-returns-in_err-block-clause-reads
behind_repeat-returns-in_err-block-clause-reads t c ss k s =
    let n = c.in_ok-bound.bound in
    let x = c.in_ok-name.name in
    let counted = c.in_ok-bound.ensures.reads (λ n. Fixed AsMark (Named (λ x. in_braces (λ body. with_statement ss k (tree.Repeat n x body))))) s in
    let marked = c.in_ok-mark.ensures.reads (Named (λ x. in_braces (λ body. with_statement ss k (tree.Repeat n x body)))) counted in
    let named = c.in_ok-name.ensures.reads (λ x. in_braces (λ body. with_statement ss k (tree.Repeat n x body))) marked in
    exit_same _ _ _ _ c.from_residual-in_err-block.ensures.1 (c.in_err-block.ensures.reads (λ body. with_statement ss k (tree.Repeat n x body)) named)

pub behind_repeat-returns-clause-reads : goal.behind_repeat-returns-clause-reads
behind_repeat-returns-clause-reads t c ss k s =
    let n = c.in_ok-bound.bound in
    let x = c.in_ok-name.name in
    let counted = c.in_ok-bound.ensures.reads (λ n. Fixed AsMark (Named (λ x. in_braces (λ body. with_statement ss k (tree.Repeat n x body))))) s in
    let marked = c.in_ok-mark.ensures.reads (Named (λ x. in_braces (λ body. with_statement ss k (tree.Repeat n x body)))) counted in
    let named = c.in_ok-name.ensures.reads (λ x. in_braces (λ body. with_statement ss k (tree.Repeat n x body))) marked in
    subst (λ t. Stands c.args.self.now c.block.new.cursor (with_statement ss k t)) (sym (statement-repeat n x c.in_ok-block.block)) (c.in_ok-block.ensures.reads (λ body. with_statement ss k (tree.Repeat n x body)) named)

pub block-returns-in_err-mark-clause-reads : goal.block-returns-in_err-mark-clause-reads
block-returns-in_err-mark-clause-reads t c k s = exit_refused _ _ c.args.self.now _ c.from_residual.ensures.1 (c.in_err-mark.ensures.reads (Within [] k) s)

pub block-returns-clause-reads : goal.block-returns-clause-reads
block-returns-clause-reads t c k s = c.statements.ensures.reads k (c.in_ok-mark.ensures.reads (Within [] k) s)

pub statement-returns-in-Let-clause-reads : goal.statement-returns-in-Let-clause-reads
statement-returns-in-Let-clause-reads t c ss k s = c.behind_let.ensures.reads ss k (headed ss k c.in-Let.is s)

pub statement-returns-in-Put-clause-reads : goal.statement-returns-in-Put-clause-reads
statement-returns-in-Put-clause-reads t c ss k s = c.behind_put.ensures.reads ss k (headed ss k c.in-Put.is s)

pub statement-returns-in-Delete-clause-reads : goal.statement-returns-in-Delete-clause-reads
statement-returns-in-Delete-clause-reads t c ss k s = c.behind_delete.ensures.reads ss k (headed ss k c.in-Delete.is s)

pub statement-returns-in-If-clause-reads : goal.statement-returns-in-If-clause-reads
statement-returns-in-If-clause-reads t c ss k s = c.behind_if.ensures.reads ss k (headed ss k c.in-If.is s)

pub statement-returns-in-Repeat-clause-reads : goal.statement-returns-in-Repeat-clause-reads
statement-returns-in-Repeat-clause-reads t c ss k s = c.behind_repeat.ensures.reads ss k (headed ss k c.in-Repeat.is s)

pub statement-returns-in-Refuse-clause-reads : goal.statement-returns-in-Refuse-clause-reads
statement-returns-in-Refuse-clause-reads t c ss k s = c.behind_refuse.ensures.reads ss k (headed ss k c.in-Refuse.is s)

pub statement-returns-in-Reply-clause-reads : goal.statement-returns-in-Reply-clause-reads
statement-returns-in-Reply-clause-reads t c ss k s = c.behind_reply.ensures.reads ss k (headed ss k c.in-Reply.is s)

pub statements-loop-block-init : goal.statements-loop-block-init
statements-loop-block-init t c = record {
  onward = omega arith;
  reads = λ k s. subst (λ xs. Stands c.args.self.now c.args.cursor.now (Within (map statement_of xs) k)) (sym c.new-block.ensures.items) s;
}

pub statements-loop-block-preserved : goal.statements-loop-block-preserved
statements-loop-block-preserved t c = record {
  onward = let h = c.loop-block.invariant.onward in let i = c.in_ok-head.ensures.onward in let j = c.in_ok-statement.ensures.onward in omega arith;
  reads = λ k s.
      let p = c.args.self.now in
      let ss = map statement_of c.loop-block.block.items in
      let headed = subst (λ h. Stands p c.head.new.cursor (behind_head h ss k)) c.in-Some.is (c.in_ok-head.ensures.reads ss k (c.loop-block.invariant.reads k s)) in
      let read = c.in_ok-statement.ensures.reads ss k headed in
      let more = statements-push c.push.new.self.items c.loop-block.block.items c.in_ok-statement.statement c.in_ok-push.ensures.items in
      subst (λ ts. Stands p c.statement.new.cursor (Within ts k)) (sym more) read;
}

pub statements-returns-in_err-head-clause-reads : goal.statements-returns-in_err-head-clause-reads
statements-returns-in_err-head-clause-reads t c k s =
    let ss = map statement_of c.loop-block.block.items in
    exit_refused _ _ c.args.self.now _ c.from_residual.ensures.1 (c.in_err-head.ensures.reads ss k (c.loop-block.invariant.reads k s))

pub statements-returns-in_err-statement-clause-reads : goal.statements-returns-in_err-statement-clause-reads
statements-returns-in_err-statement-clause-reads t c k s =
    let p = c.args.self.now in
    let ss = map statement_of c.loop-block.block.items in
    let headed = subst (λ h. Stands p c.head.new.cursor (behind_head h ss k)) c.in-Some.is (c.in_ok-head.ensures.reads ss k (c.loop-block.invariant.reads k s)) in
    exit_same _ _ _ _ c.from_residual-in_err-statement.ensures.1 (c.in_err-statement.ensures.reads ss k headed)

pub statements-returns-clause-reads : goal.statements-returns-clause-reads
statements-returns-clause-reads t c k s =
    let p = c.args.self.now in
    let ss = map statement_of c.loop-block.block.items in
    subst (λ h. Stands p c.head.new.cursor (behind_head h ss k)) c.in_default.is (c.in_ok-head.ensures.reads ss k (c.loop-block.invariant.reads k s))
