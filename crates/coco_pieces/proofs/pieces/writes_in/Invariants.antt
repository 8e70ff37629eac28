use Rattle.std.proofs.Common.{◌≡◌, ◌++◌, drop}
use Rattle.coco_pieces.specs.Pieces.{writes_on}
use Rattle.coco_pieces.proofs.pieces.writes_in.Given as goal

abbrev pub invariant-loop-write : goal.invariant-loop-write
invariant-loop-write l = l.found.items ++ writes_on l.count l.partition (drop l.write-index l.writes) ≡ writes_on l.count l.partition l.writes
