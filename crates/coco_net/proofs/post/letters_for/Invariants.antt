use Rattle.std.proofs.Common.{◌≡◌, ◌<◌, ◌^◌, take, length}
use Rattle.coco_net.specs.Mail.{letters_to, picked}
use Rattle.coco_net.proofs.post.letters_for.Given as goal

-- the letters of the numbers so far
abbrev pub invariant-loop-n : goal.invariant-loop-n
invariant-loop-n l = record {
  letters : l.letters.items ≡ letters_to l.place (picked l.sent (take l.n-index l.chosen));
  few : length l.letters.items < 2 ^ 32;
}
