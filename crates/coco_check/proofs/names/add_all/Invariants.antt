use Rattle.std.proofs.Common.{◌≡◌, drop}
use Rattle.coco_check.specs.Search.{adding}
use Rattle.coco_check.proofs.names.add_all.Given as goal

-- what is left to add comes to what all names come to
abbrev pub invariant-loop-i : goal.invariant-loop-i
invariant-loop-i l = adding l.set.keys l.i (drop l.i l.names) ≡ adding l.fn.set.keys 0 l.names
