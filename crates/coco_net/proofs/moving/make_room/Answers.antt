use Rattle.std.proofs.Common.{◌≡◌, ◌<◌, ◌≤◌, ◌^◌, ◌∙◌, ap, arith, deque_capacity, get_or, inl, inr, length, map, subst}
use Rattle.std.proofs.lemmas.Bool.{cases_lt}
use Rattle.std.proofs.lemmas.List.{length-map}
use Rattle.coco_net.specs.Mail.{letters_to}
use Rattle.coco_net.proofs.moving.make_room.Goals as goal

pub loop-place-preserved : goal.loop-place-preserved
loop-place-preserved c =
    let count : c.count_to.result ≡ length (letters_to c.loop-place.place c.args.letters.now) = c.count_to.ensures in
    let within : c.loop-place.place < length c.loop-place.boxes.items = omega (arith, c.loop-place-test.true, c.loop-place.auto.place-end, c.len-place-end.ensures, length-map c.loop-place.boxes.items (λ q. q.items), length-map c.args.boxes.now.items (λ q. q.items), ap length c.loop-place.invariant.same) in
    record {
      same = c.in_ok-widen.ensures.same ∙ c.loop-place.invariant.same;
      room = λ p h. elim (cases_lt p c.loop-place.place) [
        | inl less ↦
            let before = c.loop-place.invariant.room p less in
            let wider = c.in_ok-widen.ensures.wider p in
            (omega (arith, before.0, wider), before.1)
        | inr more ↦
            let here : c.loop-place.place ≡ p = omega (arith, h, more) in
            subst (λ q. (length (letters_to q c.args.letters.now) ≤ get_or (map (λ q. deque_capacity q) c.widen.new.boxes.items) q 0) × (length (letters_to q c.args.letters.now) < 2 ^ 32)) here
            (omega (arith, count, c.in_ok-widen.ensures.room within), omega (arith, count, c.in_ok-widen.ensures.few))
      ];
    }
