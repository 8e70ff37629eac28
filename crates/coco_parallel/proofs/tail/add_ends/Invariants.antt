use Rattle.std.proofs.Common.{◌≡◌, ◌<◌, ◌++◌, ℕ, [], take, length, slice_index_or}
use Rattle.coco_parallel.specs.Ends.{ends_at}
use Rattle.coco_parallel.proofs.tail.add_ends.Given as goal

abbrev pub invariant-loop-script : goal.invariant-loop-script
invariant-loop-script l = (place : ℕ) → place < length l.fn.ends → slice_index_or l.ends place [] ≡ slice_index_or l.fn.ends place [] ++ ends_at place (take l.script-index l.tried)
