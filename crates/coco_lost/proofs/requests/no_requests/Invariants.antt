use Rattle.std.proofs.Common.{◌≡◌, replicate, None}
use Rattle.coco_lost.proofs.requests.no_requests.Given as goal

abbrev pub invariant-loop-place : goal.invariant-loop-place
invariant-loop-place l = l.slots.items ≡ replicate l._place None
