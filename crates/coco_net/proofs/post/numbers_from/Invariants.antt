use Rattle.std.proofs.Common.{◌≡◌, ◌++◌, ◌<◌, drop, length}
use Rattle.std.specs.List.{All}
use Rattle.coco_net.specs.Mail.{picked}
use Rattle.coco_net.proofs.post.numbers_from.Given as goal

-- the letters picked so far, and those from the next number on
abbrev pub invariant-loop-n : goal.invariant-loop-n
invariant-loop-n l = record {
  picked : picked l.sent l.numbers.items ++ drop l.n l.sent ≡ drop l.from l.sent;
  within : All (λ n. n < length l.sent) l.numbers.items;
}
