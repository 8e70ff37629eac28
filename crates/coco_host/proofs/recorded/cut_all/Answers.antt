use Rattle.std.proofs.Common.{◌<◌, length, map, get_or, set, sym, ap, ◌∙◌, arith}
use Rattle.std.proofs.lemmas.List.{length-map, map-set, get_or-map}
use Rattle.std.proofs.lemmas.List.Edits.{map_over_more}
use Rattle.coco_host.specs.Record.{Event}
use Rattle.coco_host.specs.Recorded.{event_of, cut_event}
use Rattle.coco_host.proofs.recorded.cut_all.Goals as goal

pub loop-event-preserved : goal.loop-event-preserved
loop-event-preserved c =
    let k = c.loop-event.event-index in
    let xs = c.args.happened.now in
    let ys = c.loop-event.happened in
    let d = c.event-item.result in
    let x = event_of (get_or ys k d) in
    let here : k < length ys = omega (arith, c.loop-event-test.true, c.loop-event.auto.happened) in
    let within : k < length (map event_of xs) = omega (arith, c.loop-event-test.true, length-map xs event_of) in
    map-set event_of ys k c.cut_write.new.event ∙ ap (λ (e : Event). set (map event_of ys) k e) c.cut_write.ensures
    ∙ map_over_more (cut_event c.args.file c.args.len) (map event_of xs) (map event_of ys) k x within c.loop-event.invariant (sym (get_or-map event_of ys k d x here))
