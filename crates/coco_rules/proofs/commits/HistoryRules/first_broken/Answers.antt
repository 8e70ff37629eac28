use Rattle.std.proofs.Common.{◌++◌, take, ◌∙◌, arith}
use Rattle.coco_store.specs.Rules.{IsCommittedDone}
use Rattle.coco_rules.specs.Behind.{IsBehindDones}
use Rattle.coco_rules.proofs.JudgedLemmas.{all_gone, broken_here, one_further}
use Rattle.coco_rules.proofs.commits.HistoryRules.first_broken.Goals as goal

pub returns-then-not-branch-clause-found : goal.returns-then-not-branch-clause-found
returns-then-not-branch-clause-found c = λ s base before same behind.
    let dones = c.args.dones.now in
    let i = c.loop-place.place in
    let so_far = c.loop-place.invariant.1 s base before same behind in
    let step = rw c.if-not-branch.true at (c.in_ok-takes.ensures.takes s base (before ++ take i dones) same so_far.1) in
    broken_here (IsCommittedDone s base) before dones i c.index-dones-place.result c.loop-place-test.true c.index-dones-place.is so_far.0 step

pub loop-place-preserved : goal.loop-place-preserved
loop-place-preserved c = (
  c.takes.ensures.epoch ∙ c.loop-place.invariant.0,
  λ s base before same behind.
      let dones = c.args.dones.now in
      let i = c.loop-place.place in
      let so_far = c.loop-place.invariant.1 s base before same behind in
      let step = rw c.if-not-branch.false at (c.in_ok-takes.ensures.takes s base (before ++ take i dones) same so_far.1) in
      one_further (IsCommittedDone s base) (λ l. IsBehindDones s base l c.takes.new.self) before dones i c.index-dones-place.result c.loop-place-test.true c.index-dones-place.is so_far.0 step,
)

pub returns-clause-found : goal.returns-clause-found
returns-clause-found c = λ s base before same behind.
    all_gone (IsCommittedDone s base) (λ l. IsBehindDones s base l c.loop-place.self) before c.args.dones.now c.loop-place.place (omega (arith, c.loop-place-test.false))
    (c.loop-place.invariant.1 s base before same behind)
