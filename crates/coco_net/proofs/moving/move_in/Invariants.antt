use Rattle.std.proofs.Common.{◌≡◌, deque_capacity, map, vec_len}
use Rattle.coco_net.proofs.RoomLemmas.{IsMoving}
use Rattle.coco_net.proofs.moving.move_in.Given as goal

-- the letters at the end are in their boxes, each of which has the room that it had
abbrev pub invariant-letters : goal.invariant-letters
invariant-letters l = record {
  moving : IsMoving l.fn.letters.items l.letters.items (map (λ q. q.items) l.boxes.items);
  room : map (λ q. deque_capacity q) l.boxes.items ≡ map (λ q. deque_capacity q) l.fn.boxes.items;
}

abbrev pub decreases-letters : goal.decreases-letters
decreases-letters l = vec_len l.letters
