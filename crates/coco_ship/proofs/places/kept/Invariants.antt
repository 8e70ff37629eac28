use Rattle.std.proofs.Common.{take}
use Rattle.coco_ship.specs.Sets.{Keeps}
use Rattle.coco_ship.proofs.places.kept.Given as goal

-- so for the places so far
abbrev pub invariant-loop-place : goal.invariant-loop-place
invariant-loop-place l = Keeps l.set (take l.place-index l.places) l.still
