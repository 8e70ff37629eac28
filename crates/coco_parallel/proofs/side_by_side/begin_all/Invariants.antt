use Rattle.std.proofs.Common.{◌≡◌, ◌++◌, map, take, drop}
use Rattle.coco_copy.specs.CopyState.{CopyState, begun}
use Rattle.coco_parallel.proofs.side_by_side.begin_all.Given as goal

abbrev pub invariant-loop-place : goal.invariant-loop-place
invariant-loop-place l = l.copies ≡ map (λ (t : CopyState). begun l.epoch t.stable) (take l.place l.fn.copies) ++ drop l.place l.fn.copies
