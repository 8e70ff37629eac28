use Rattle.std.proofs.Common.{◌<◌, length, map, arith}
use Rattle.std.proofs.lemmas.List.{length-map}
use Rattle.coco_host.specs.Recorded.{event_of}
use Rattle.coco_host.proofs.Crashing.{event_read, begins_next, reads_next}
use Rattle.coco_host.proofs.crash.reading.Goals as goal

pub write_again-requires : goal.write_again-requires
write_again-requires c =
    let k = c.loop-event.event-index in
    let xs = c.args.happened.now in
    let x = c.event-item.result in
    let below : k < length xs = omega (arith, c.loop-event-test.true) in
    let within : k < length (map event_of xs) = omega (arith, below, length-map xs event_of) in
    begins_next c.args.file (map event_of xs) k (event_of x) within (event_read xs k x below c.event-item.is) c.loop-event.bytes.items c.requires c.loop-event.invariant

pub loop-event-preserved : goal.loop-event-preserved
loop-event-preserved c =
    let k = c.loop-event.event-index in
    let xs = c.args.happened.now in
    let x = c.event-item.result in
    let below : k < length xs = omega (arith, c.loop-event-test.true) in
    let within : k < length (map event_of xs) = omega (arith, below, length-map xs event_of) in
    reads_next c.args.file (map event_of xs) k (event_of x) within (event_read xs k x below c.event-item.is) c.loop-event.bytes.items c.write_again.new.bytes.items c.loop-event.invariant c.in_ok-write_again.ensures
