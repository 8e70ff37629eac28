use Rattle.std.proofs.Common.{◌≡◌, ◌<◌, ℕ, ◌||◌, false, take, length, slice_index_or}
use Rattle.coco_parallel.specs.Ends.{has_commit}
use Rattle.coco_parallel.proofs.tail.mark.Given as goal

abbrev pub invariant-loop-script : goal.invariant-loop-script
invariant-loop-script l = (place : ℕ) → place < length l.fn.places → slice_index_or l.places place false ≡ (slice_index_or l.fn.places place false || has_commit (take l.script-index l.tried) place)
