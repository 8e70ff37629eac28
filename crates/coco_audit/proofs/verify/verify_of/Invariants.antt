use Rattle.coco_load.specs.RowMaps.{joined, map_with}
use Rattle.coco_audit.proofs.Replies.{RanTo}
use Rattle.coco_audit.proofs.verify.verify_of.Given as goal

-- the Dones before this place ran as they were kept
abbrev pub invariant-loop-place : goal.invariant-loop-place
invariant-loop-place l = RanTo l.procs (map_with (joined l.base)) l.kept.dones l.first l.place l.executor.rows
