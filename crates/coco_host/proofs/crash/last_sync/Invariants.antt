use Rattle.std.proofs.Common.{map, take}
use Rattle.coco_host.specs.Recorded.{event_of}
use Rattle.coco_host.specs.Crash.{IsLastSync}
use Rattle.coco_host.proofs.crash.last_sync.Given as goal

abbrev pub invariant-loop-place : goal.invariant-loop-place
invariant-loop-place l = IsLastSync l.file (take l.place (map event_of l.happened)) l.last
