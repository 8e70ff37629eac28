use Rattle.std.proofs.Common.{◌++◌, take, arith}
use Rattle.coco_store.specs.Rules.{IsKeptDone}
use Rattle.coco_rules.specs.Noting.{AreNoted}
use Rattle.coco_rules.proofs.JudgedLemmas.{all_gone, broken_here, one_further}
use Rattle.coco_rules.proofs.base.first_broken_done.Goals as goal

pub returns-then-not-branch-clause-found : goal.returns-then-not-branch-clause-found
returns-then-not-branch-clause-found c = λ s before tree epoch are.
    let dones = c.args.dones.now in
    let i = c.loop-place.place in
    let so_far = c.loop-place.invariant s before tree epoch are in
    broken_here (IsKeptDone s) before dones i c.index-dones-place.result c.loop-place-test.true c.index-dones-place.is so_far.0
    (rw c.if-not-branch.true at (c.in_ok-takes_done.ensures s (before ++ take i dones) tree epoch so_far.1))

pub loop-place-preserved : goal.loop-place-preserved
loop-place-preserved c = λ s before tree epoch are.
    let dones = c.args.dones.now in
    let i = c.loop-place.place in
    let so_far = c.loop-place.invariant s before tree epoch are in
    one_further (IsKeptDone s) (λ l. AreNoted s.entry.keep l c.takes_done.new.noted) before dones i c.index-dones-place.result c.loop-place-test.true c.index-dones-place.is so_far.0
    (rw c.if-not-branch.false at (c.in_ok-takes_done.ensures s (before ++ take i dones) tree epoch so_far.1))

pub returns-clause-found : goal.returns-clause-found
returns-clause-found c = λ s before tree epoch are.
    all_gone (IsKeptDone s) (λ l. AreNoted s.entry.keep l c.loop-place.noted) before c.args.dones.now c.loop-place.place (omega (arith, c.loop-place-test.false)) (c.loop-place.invariant s before tree epoch are)
