use Rattle.std.proofs.Common.{◌≡◌, ◌++◌, deque_capacity, drop, map, take}
use Rattle.coco_net.proofs.RoomLemmas.{none_of}
use Rattle.coco_net.proofs.moving.empty.Given as goal

-- those so far are empty, and each has the room that it had
abbrev pub invariant-loop-letters : goal.invariant-loop-letters
invariant-loop-letters l = record {
  items : map (λ q. q.items) l.boxes ≡ map none_of (take l.letters-index (map (λ q. q.items) l.initial.boxes)) ++ drop l.letters-index (map (λ q. q.items) l.initial.boxes);
  room : map (λ q. deque_capacity q) l.boxes ≡ map (λ q. deque_capacity q) l.initial.boxes;
}
