use Rattle.std.proofs.Common.{◌<◌, length, map, ap, ◌∙◌, arith}
use Rattle.std.proofs.lemmas.List.{length-map}
use Rattle.coco_host.specs.Recorded.{event_of}
use Rattle.coco_host.specs.Crash.{is_sync}
use Rattle.coco_host.proofs.Crashing.{event_read, tears_next}
use Rattle.coco_host.proofs.crash.tear_all.Goals as goal

pub loop-event-preserved : goal.loop-event-preserved
loop-event-preserved c =
    let k = c.loop-event.event-index in
    let xs = c.args.happened.now in
    let x = c.event-item.result in
    let below : k < length xs = omega (arith, c.loop-event-test.true) in
    let within : k < length (map event_of xs) = omega (arith, below, length-map xs event_of) in
    let e = event_read xs k x below c.event-item.is in
    tears_next c.args.file (map event_of xs) k (event_of x) within e c.args.bytes.now.items c.loop-event.bytes.items c.tear.new.bytes.items (ap (is_sync c.args.file) e ∙ c.requires k (event_of x) below) c.loop-event.invariant c.in_ok-tear.ensures
