use Rattle.std.proofs.Common.{◌≢◌, ◌<◌, ℕ}
use Rattle.coco_ship.specs.Placing.{holder_of}
use Rattle.coco_ship.proofs.ring.Ring.table_on.Given as goal

-- none of the copies so far is on the node
abbrev pub invariant-loop-copy : goal.invariant-loop-copy
invariant-loop-copy l = (j : ℕ) → j < l.copy → holder_of l.self l.partition j ≢ l.node
