use Rattle.std.proofs.Common.{◌<◌, ℕ}
use Rattle.coco_ship.specs.Going.{HasAnswered}
use Rattle.coco_ship.proofs.ship.silent.Given as goal

-- the nodes so far have answered
abbrev pub invariant-loop-node : goal.invariant-loop-node
invariant-loop-node l = (n : ℕ) → n < l.node → HasAnswered l.ring l.lines n
