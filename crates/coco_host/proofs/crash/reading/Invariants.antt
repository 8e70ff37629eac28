use Rattle.std.proofs.Common.{◌≡◌, map, take}
use Rattle.coco_host.specs.Record.{content, stored}
use Rattle.coco_host.specs.Recorded.{event_of}
use Rattle.coco_host.proofs.crash.reading.Given as goal

abbrev pub invariant-loop-event : goal.invariant-loop-event
invariant-loop-event l = l.bytes.items ≡ content (stored (take l.event-index (map event_of l.happened)) l.file)
