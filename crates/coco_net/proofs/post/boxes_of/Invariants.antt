use Rattle.std.proofs.Common.{◌≡◌, false, get_or, map}
use Rattle.coco_net.specs.Mail.{IsFew, below, letters_to, picked, turned}
use Rattle.coco_net.proofs.post.boxes_of.Given as goal

-- the boxes of the places so far
abbrev pub invariant-loop-place : goal.invariant-loop-place
invariant-loop-place l = record {
  letters : map (λ q. q.items) l.boxes.items ≡ map (λ p. turned (get_or l.turns p false) (letters_to p (picked l.sent l.chosen))) (below l.place);
  few : IsFew (map (λ q. q.items) l.boxes.items);
}
