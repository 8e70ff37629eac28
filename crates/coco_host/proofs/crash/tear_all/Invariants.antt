use Rattle.std.proofs.Common.{map, take}
use Rattle.coco_host.specs.Recorded.{event_of}
use Rattle.coco_host.specs.Crash.{IsTornFrom}
use Rattle.coco_host.proofs.crash.tear_all.Given as goal

abbrev pub invariant-loop-event : goal.invariant-loop-event
invariant-loop-event l = IsTornFrom l.file l.initial.bytes.items (take l.event-index (map event_of l.happened)) l.bytes.items
