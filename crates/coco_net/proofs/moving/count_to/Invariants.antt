use Rattle.std.proofs.Common.{◌≡◌, length, take}
use Rattle.coco_net.specs.Mail.{letters_to}
use Rattle.coco_net.proofs.moving.count_to.Given as goal

-- those so far
abbrev pub invariant-loop-posted : goal.invariant-loop-posted
invariant-loop-posted l = l.count ≡ length (letters_to l.place (take l.posted-index l.letters))
