use Rattle.std.proofs.Common.{take}
use Rattle.coco_ship.specs.Sets.{Misses}
use Rattle.coco_ship.proofs.places.lacked.Given as goal

-- so for the places so far
abbrev pub invariant-loop-place : goal.invariant-loop-place
invariant-loop-place l = Misses l.had (take l.place-index l.places) l.missing
