use Rattle.std.proofs.Common.{◌≡◌, ◌++◌, take}
use Rattle.coco_net.specs.Mail.{picked}
use Rattle.coco_net.proofs.post.note_given.Given as goal

-- the letters of the numbers so far
abbrev pub invariant-loop-n : goal.invariant-loop-n
invariant-loop-n l = l.given.items ≡ l.initial.given.items ++ picked l.sent (take l.n-index l.chosen)
