use Rattle.std.proofs.Common.{[], arith}
use Rattle.coco_store.specs.Rules.{IsNodeRow}
use Rattle.coco_rules.proofs.JudgedLemmas.{all_gone, broken_here, one_further}
use Rattle.coco_rules.proofs.prepared.NodeRules.first_broken.Goals as goal

pub returns-then-not-takes-clause-found : goal.returns-then-not-takes-clause-found
returns-then-not-takes-clause-found c = λ s layout tree.
    broken_here (λ _. IsNodeRow s c.args.self.now.node) [] c.args.rows.now c.loop-place.place c.index-rows-place.result c.loop-place-test.true c.index-rows-place.is (c.loop-place.invariant s layout tree)
    (rw c.if-not-takes.true at (c.takes.ensures s layout tree))

pub loop-place-preserved : goal.loop-place-preserved
loop-place-preserved c = λ s layout tree.
    (one_further (λ _. IsNodeRow s c.args.self.now.node) (λ _. Unit {0}) [] c.args.rows.now c.loop-place.place c.index-rows-place.result c.loop-place-test.true c.index-rows-place.is (c.loop-place.invariant s layout tree)
    (rw c.if-not-takes.false at (c.takes.ensures s layout tree), tt)).0

pub returns-clause-found : goal.returns-clause-found
returns-clause-found c = λ s layout tree.
    all_gone (λ _. IsNodeRow s c.args.self.now.node) (λ _. Unit {0}) [] c.args.rows.now c.loop-place.place (omega (arith, c.loop-place-test.false)) (c.loop-place.invariant s layout tree, tt)
