use Rattle.std.proofs.Common.{◌≡◌, ◌<◌, ◌∙◌, ◌∷◌, ◌++◌, [], ap, arith, deque_capacity, length, map, rules, subst, sym}
use Rattle.std.proofs.lemmas.List.{length-map}
use Rattle.coco_net.specs.Room.{HasRoom}
use Rattle.coco_net.proofs.RoomLemmas.{emptied, front_of, moving_fits, moving_start, none_of}
use Rattle.coco_net.proofs.moving.move_in.Goals as goal

pub letters-init : goal.letters-init
letters-init c =
    let old = c.args.boxes.now.items in
    record {
      moving = moving_start c.args.letters.now.items _
          (ap (map (λ q. q.items)) (front_of c.args.boxes.now.len c.empty.new.boxes _ (search rules)) ∙ c.empty.ensures.items ∙ ap (λ qs. map none_of (map (λ q. q.items) qs)) c.deref_mut.ensures.value
          ∙ emptied (map (λ q. q.items) old) (length-map old (λ q. q.items) ∙ c.requires.nine));
      room = ap (map (λ q. deque_capacity q)) (front_of c.args.boxes.now.len c.empty.new.boxes _ (search rules)) ∙ c.empty.ensures.room ∙ ap (map (λ q. deque_capacity q)) c.deref_mut.ensures.value;
    }

pub put_first-requires : goal.put_first-requires
put_first-requires c = λ within.
    let boxes = c.letters.boxes.items in
    let all = c.args.letters.now.items in
    let taken : c.letters.letters.items ≡ c.pop.new.self.items ++ c.in-Some.posted ∷ [] = search rules in
    let nine : length (map (λ q. deque_capacity q) boxes) ≡ 9 = ap length c.letters.invariant.room ∙ length-map c.args.boxes.now.items (λ q. deque_capacity q) ∙ c.requires.nine in
    let inside : c.in-Some.posted.to < 9 = omega (arith, within, nine, length-map boxes (λ q. deque_capacity q)) in
    moving_fits all c.letters.letters.items c.pop.new.self.items c.in-Some.posted (map (λ q. q.items) boxes) (map (λ q. deque_capacity q) boxes) taken nine (subst (HasRoom all) (sym c.letters.invariant.room) c.requires.room) c.letters.invariant.moving inside
