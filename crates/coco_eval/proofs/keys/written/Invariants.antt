use Rattle.std.proofs.Common.{◌≡◌, drop}
use Rattle.coco_eval.specs.Places.{written_at}
use Rattle.coco_eval.proofs.keys.written.Given as goal

abbrev pub invariant-loop-write : goal.invariant-loop-write
invariant-loop-write l = written_at (drop l.write-index l.writes) l.key ≡ written_at l.writes l.key
