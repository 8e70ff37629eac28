use Rattle.std.proofs.Common.{◌≡◌, ◌<◌, ◌≤◌, ◌^◌, ℕ, deque_capacity, get_or, length, map}
use Rattle.coco_net.specs.Mail.{letters_to}
use Rattle.coco_net.proofs.moving.make_room.Given as goal

-- the boxes of the places so far have room
abbrev pub invariant-loop-place : goal.invariant-loop-place
invariant-loop-place l = record {
  same : map (λ q. q.items) l.boxes.items ≡ map (λ q. q.items) l.initial.boxes.items;
  room : (p : ℕ) → p < l.place → (length (letters_to p l.letters) ≤ get_or (map (λ q. deque_capacity q) l.boxes.items) p 0) × (length (letters_to p l.letters) < 2 ^ 32);
}
