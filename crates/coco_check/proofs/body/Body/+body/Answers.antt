use Rattle.std.proofs.Common.{◌≡◌, ◌+◌, ◌∷◌, [], ◌++◌, length, take, drop, Err, sym, ap, ◌∙◌, arith, length-append}
use Rattle.std.proofs.lemmas.List.{take_all, take_more}
use Rattle.std.proofs.lemmas.Result.{err_from_is_err_and}
use Rattle.coco_ast.specs.Checks.{and_within, in_order}
use Rattle.coco_ast.specs.Views.{statement_of, statements_of}
use Rattle.coco_ast.specs.declared.tree.Stmt.{Stmt}
use Rattle.coco_ast.specs.declared.tree.Stmt.TheVariants.{If}
use Rattle.coco_ast.proofs.PlanLemmas.{if_step, if_else_step, repeat_step, steps_more, steps_whole, adds_statement, adds_if, adds_if_else, adds_repeat}
use Rattle.coco_check.specs.Search.{walk}
use Rattle.coco_check.specs.Walking.{walk_of, within}
use Rattle.coco_check.proofs.Walks.{walk_on, walk_stops, follows_fault, order_from, if_within, if_else_within}
use Rattle.coco_check.proofs.body.Body.+body.Goals as goal

-- ---- blocks

pub check_block-returns-in_err-step-clause-walk : goal.check_block-returns-in_err-step-clause-walk
check_block-returns-in_err-step-clause-walk t c =
    let p = err_from_is_err_and c.from_residual-in_err-step.result c.from_residual-in_err-step.ensures.1 in
    let ts = c.args.tables.now.keys in
    let here = and_within c.args.around (statement_of c.stmt-item.result) in
    let behind = in_order c.args.around (statements_of (drop (c.loop-stmt.stmt-index + 1) c.args.block.now)) in
    let order = order_from c.args.around c.args.block.now c.loop-stmt.stmt-index c.stmt-item.result c.loop-stmt-test.true c.stmt-item.is in
    follows_fault c.from_residual-in_err-step.result c.in_err-step.field-0.0 c.check_stmt.new.self
    (walk ts (walk_of c.loop-stmt.self) here) (walk ts (walk_of c.args.self.now) (in_order c.args.around (statements_of c.args.block.now)))
    (p.1 ∙ ap Err p.2)
    (λ e h. sym c.loop-stmt.invariant.walk ∙ ap (walk ts (walk_of c.loop-stmt.self)) order ∙ walk_stops ts (walk_of c.loop-stmt.self) e here behind h)
    c.in_err-step.ensures.walk

pub check_block-loop-stmt-preserved : goal.check_block-loop-stmt-preserved
check_block-loop-stmt-preserved t c =
    let ts = c.args.tables.now.keys in let block = c.args.block.now in let i = c.loop-stmt.stmt-index in let s = c.stmt-item.result in
    let here = and_within c.args.around (statement_of s) in
    let behind = in_order c.args.around (statements_of (drop (i + 1) block)) in
    let order = order_from c.args.around block i s c.loop-stmt-test.true c.stmt-item.is in
    let count = ap length order ∙ length-append here behind in
    let now = c.loop-stmt.draft in let new = c.check_stmt.new.draft in
    let front : take (i + 1) block ≡ take i block ++ s ∷ [] = take_more block i s c.loop-stmt-test.true ∙ ap (λ (u : Stmt). take i block ++ u ∷ []) (sym c.stmt-item.is) in
    record {
      numbers = omega (arith, c.in_ok-step.ensures.last, count, c.loop-stmt.invariant.numbers);
      walk =
          sym (walk_on ts (walk_of c.loop-stmt.self) (walk_of c.check_stmt.new.self) here behind c.in_ok-step.ensures.walk)
          ∙ sym (ap (walk ts (walk_of c.loop-stmt.self)) order) ∙ c.loop-stmt.invariant.walk;
      adds = adds_statement (take i block) (take (i + 1) block) s front c.loop-stmt.invariant.adds c.in_ok-step.ensures.adds;
      below = steps_more now.slots new.slots now.terms.items new.terms.items (take i block) (take (i + 1) block) s c.loop-stmt.steps.items c.push_reserved.new.self.items c.in_ok-step.step front
          c.push_reserved.ensures.items c.in_ok-step.ensures.adds c.loop-stmt.invariant.below c.in_ok-step.ensures.step;
      room = omega arith;
    }

pub check_block-returns-clause-steps : goal.check_block-returns-clause-steps
check_block-returns-clause-steps t c =
    let block = c.args.block.now in let i = c.loop-stmt.stmt-index in let draft = c.loop-stmt.draft in
    steps_whole draft.slots draft.terms.items block (take i block) c.loop-stmt.steps.items (take_all i block c.loop-stmt-test.false) c.loop-stmt.invariant.below

-- ---- the blocks of an `if`

pub check_if-returns-in_err-yes-clause-walk : goal.check_if-returns-in_err-yes-clause-walk
check_if-returns-in_err-yes-clause-walk t c =
    let p = err_from_is_err_and c.from_residual-in_err-yes.result c.from_residual-in_err-yes.ensures.1 in
    let n = c.args.around in let ts = c.args.tables.now.keys in let now = walk_of c.args.self.now in
    let here = in_order n (statements_of c.args.yes.now.items) in
    let parts = if_within n c.args.test.now c.args.yes.now c.args.no.now in
    follows_fault c.from_residual-in_err-yes.result c.in_err-yes.field-0.0 c.check_block.new.self
    (walk ts now here) (walk ts now (within n (statement_of (If c.args.test.now c.args.yes.now c.args.no.now))))
    (p.1 ∙ ap Err p.2)
    (λ e h. ap (walk ts now) parts.1 ∙ walk_stops ts now e here parts.0 h)
    (rw c.deref.ensures.value at c.in_err-yes.ensures.walk)

pub check_if-returns-in_err-check_block-in-Some-clause-walk : goal.check_if-returns-in_err-check_block-in-Some-clause-walk
check_if-returns-in_err-check_block-in-Some-clause-walk t c =
    let p = err_from_is_err_and c.from_residual-in_err-check_block-in-Some.result c.from_residual-in_err-check_block-in-Some.ensures.1 in
    let n = c.args.around in let ts = c.args.tables.now.keys in let now = walk_of c.args.self.now in let between = walk_of c.check_block.new.self in
    let here = in_order n (statements_of c.args.yes.now.items) in
    let behind = in_order n (statements_of c.in-Some.no.items) in
    let parts = if_else_within n c.args.test.now c.args.yes.now c.in-Some.no c.args.no.now c.in-Some.is in
    follows_fault c.from_residual-in_err-check_block-in-Some.result c.in_err-check_block-in-Some.field-0.0 c.check_block-in-Some.new.self
    (walk ts between behind) (walk ts now (within n (statement_of (If c.args.test.now c.args.yes.now c.args.no.now))))
    (p.1 ∙ ap Err p.2)
    (λ e h. ap (walk ts now) parts ∙ walk_on ts now between here behind (rw c.deref.ensures.value at c.in_ok-yes.ensures.walk) ∙ h)
    (rw c.deref-in-Some.ensures.value at c.in_err-check_block-in-Some.ensures.walk)

pub check_if-returns-in_ok-check_block-in-Some-clause-walk : goal.check_if-returns-in_ok-check_block-in-Some-clause-walk
check_if-returns-in_ok-check_block-in-Some-clause-walk t c =
    let n = c.args.around in let ts = c.args.tables.now.keys in let now = walk_of c.args.self.now in let between = walk_of c.check_block.new.self in
    let here = in_order n (statements_of c.args.yes.now.items) in
    let behind = in_order n (statements_of c.in-Some.no.items) in
    let parts = if_else_within n c.args.test.now c.args.yes.now c.in-Some.no c.args.no.now c.in-Some.is in
    ap (walk ts now) parts ∙ walk_on ts now between here behind (rw c.deref.ensures.value at c.in_ok-yes.ensures.walk)
    ∙ (rw c.deref-in-Some.ensures.value at c.in_ok-check_block-in-Some.ensures.walk)

pub check_if-returns-in_ok-check_block-in-Some-clause-last : goal.check_if-returns-in_ok-check_block-in-Some-clause-last
check_if-returns-in_ok-check_block-in-Some-clause-last t c =
    let n = c.args.around in
    let here = in_order n (statements_of c.args.yes.now.items) in
    let behind = in_order n (statements_of c.in-Some.no.items) in
    let parts = if_else_within n c.args.test.now c.args.yes.now c.in-Some.no c.args.no.now c.in-Some.is in
    let count = ap length parts ∙ length-append here behind in
    let first = rw c.deref.ensures.value at c.in_ok-yes.ensures.last in
    let second = rw c.deref-in-Some.ensures.value at c.in_ok-check_block-in-Some.ensures.last in
    omega (arith, count, first, second)

pub check_if-returns-in-None-clause-step : goal.check_if-returns-in-None-clause-step
check_if-returns-in-None-clause-step t c =
    let read = c.term_of.new in let new = c.check_block.new.draft in
    if_step read.slots new.slots read.terms.items new.terms.items c.in_ok-test.test c.in_ok-yes.yes c.args.test.now c.args.yes.now c.args.no.now c.in-None.is (rw c.deref.ensures.value at c.in_ok-yes.ensures.adds)
    c.in_ok-test.ensures.stands (rw c.deref.ensures.value at c.in_ok-yes.ensures.steps)

pub check_if-returns-in-None-clause-adds : goal.check_if-returns-in-None-clause-adds
check_if-returns-in-None-clause-adds t c =
    adds_if c.args.test.now c.args.yes.now c.args.no.now c.in-None.is c.in_ok-test.ensures.adds (rw c.deref.ensures.value at c.in_ok-yes.ensures.adds)

pub check_if-returns-in_ok-check_block-in-Some-clause-step : goal.check_if-returns-in_ok-check_block-in-Some-clause-step
check_if-returns-in_ok-check_block-in-Some-clause-step t c =
    let read = c.term_of.new in let between = c.check_block.new.draft in let new = c.check_block-in-Some.new.draft in
    if_else_step read.slots between.slots new.slots read.terms.items between.terms.items new.terms.items c.in_ok-test.test c.in_ok-yes.yes c.in_ok-check_block-in-Some.field-0
    c.args.test.now c.args.yes.now c.in-Some.no c.args.no.now c.in-Some.is (rw c.deref.ensures.value at c.in_ok-yes.ensures.adds) c.in_ok-check_block-in-Some.ensures.adds c.in_ok-test.ensures.stands
    (rw c.deref.ensures.value at c.in_ok-yes.ensures.steps) (rw c.deref-in-Some.ensures.value at c.in_ok-check_block-in-Some.ensures.steps)

pub check_if-returns-in_ok-check_block-in-Some-clause-adds : goal.check_if-returns-in_ok-check_block-in-Some-clause-adds
check_if-returns-in_ok-check_block-in-Some-clause-adds t c =
    adds_if_else c.args.test.now c.args.yes.now c.in-Some.no c.args.no.now c.in-Some.is c.in_ok-test.ensures.adds (rw c.deref.ensures.value at c.in_ok-yes.ensures.adds) (rw c.deref-in-Some.ensures.value at c.in_ok-check_block-in-Some.ensures.adds)

-- ---- the block of a `repeat`

pub check_stmt-returns-in_ok-block-in-Repeat-clause-step : goal.check_stmt-returns-in_ok-block-in-Repeat-clause-step
check_stmt-returns-in_ok-block-in-Repeat-clause-step t c =
    let arm = c.in-Repeat in let now = c.args.draft.now in let new = c.check_block.new.draft in
    repeat_step now.slots c.slot.new.self new.slots now.terms.items new.terms.items arm.bound c.in_ok-slot-in-Repeat.slot arm.name c.in_ok-block-in-Repeat.block arm.block c.args.stmt.now arm.is
    c.in_ok-slot-in-Repeat.ensures.names c.in_ok-slot-in-Repeat.ensures.slot (rw c.deref.ensures.value at c.in_ok-block-in-Repeat.ensures.adds) (rw c.deref.ensures.value at c.in_ok-block-in-Repeat.ensures.steps)

pub check_stmt-returns-in_ok-block-in-Repeat-clause-adds : goal.check_stmt-returns-in_ok-block-in-Repeat-clause-adds
check_stmt-returns-in_ok-block-in-Repeat-clause-adds t c =
    let arm = c.in-Repeat in
    adds_repeat arm.bound arm.name arm.block c.args.stmt.now arm.is c.in_ok-slot-in-Repeat.ensures.names (rw c.deref.ensures.value at c.in_ok-block-in-Repeat.ensures.adds)
