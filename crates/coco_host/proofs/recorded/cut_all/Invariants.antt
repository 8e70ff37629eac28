use Rattle.std.proofs.Common.{◌≡◌, ◌++◌, map, take, drop}
use Rattle.coco_host.specs.Recorded.{event_of, cut_event}
use Rattle.coco_host.proofs.recorded.cut_all.Given as goal

abbrev pub invariant-loop-event : goal.invariant-loop-event
invariant-loop-event l =
    map event_of l.happened ≡ map (cut_event l.file l.len) (take l.event-index (map event_of l.initial.happened)) ++ drop l.event-index (map event_of l.initial.happened)
