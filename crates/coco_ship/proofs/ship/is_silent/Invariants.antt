use Rattle.std.proofs.Common.{◌≡◌, ◌<◌, ℕ, Some, true}
use Rattle.std.specs.List.{slice_get}
use Rattle.coco_ship.specs.declared.line.Line.{Line}
use Rattle.coco_ship.specs.Placing.{holder_of, table_of, IsCopy}
use Rattle.coco_ship.proofs.ship.is_silent.Given as goal

-- the copies of the partitions so far have answered
abbrev pub invariant-loop-partition : goal.invariant-loop-partition
invariant-loop-partition l = (p j : ℕ) → p < l.partition → IsCopy l.ring p j → holder_of l.ring p j ≡ l.node → (line : Line) → slice_get l.lines (table_of l.ring p j) ≡ Some line → line.is_done ≡ true

-- and the copies of this partition so far
abbrev pub invariant-loop-copy : goal.invariant-loop-copy
invariant-loop-copy l = (j : ℕ) → j < l.copy → holder_of l.ring l.partition j ≡ l.node → (line : Line) → slice_get l.lines (table_of l.ring l.partition j) ≡ Some line → line.is_done ≡ true
