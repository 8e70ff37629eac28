use Rattle.std.proofs.Common.{◌≡◌, ◌<◌, ℕ, true}
use Rattle.coco_chief.specs.Shown.{chief_of}
use Rattle.coco_chief.specs.Table.{has_voted}
use Rattle.coco_vote.proofs.phase.settle.Given as goal

-- all before it have voted
abbrev pub invariant-loop-node : goal.invariant-loop-node
invariant-loop-node l = (n : ℕ) → n < l.node → has_voted n (chief_of l.chief) ≡ true
