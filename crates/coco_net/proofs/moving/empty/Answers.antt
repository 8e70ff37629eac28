use Rattle.std.proofs.Common.{◌<◌, ◌∙◌, ap, arith, deque_capacity, length, map, set, sym}
use Rattle.std.proofs.lemmas.List.{length-map, map-set}
use Rattle.std.proofs.lemmas.List.Edits.{map_over_more}
use Rattle.coco_net.proofs.RoomLemmas.{none_of, set_stays, was_here}
use Rattle.coco_net.proofs.moving.empty.Goals as goal

pub loop-letters-preserved : goal.loop-letters-preserved
loop-letters-preserved c =
    let k = c.loop-letters.letters-index in
    let old = c.args.boxes.now in
    let boxes = c.loop-letters.boxes in
    let box = c.letters-item.result in
    let here : k < length boxes = omega (arith, c.loop-letters-test.true, c.loop-letters.auto.boxes) in
    let within : k < length (map (λ q. q.items) old) = omega (arith, c.loop-letters-test.true, length-map old (λ q. q.items)) in
    record {
      items = map-set (λ q. q.items) boxes k c.clear.new.self ∙ ap (set (map (λ q. q.items) boxes) k) c.clear.ensures.items
          ∙ map_over_more none_of (map (λ q. q.items) old) (map (λ q. q.items) boxes) k box.items within c.loop-letters.invariant.items (sym (was_here (λ q. q.items) boxes k box box.items here c.letters-item.is));
      room = set_stays (λ q. deque_capacity q) boxes k box c.clear.new.self here c.letters-item.is (c.clear.ensures.capacity ∙ ap (λ q. deque_capacity q) (sym c.letters-item.is)) ∙ c.loop-letters.invariant.room;
    }
