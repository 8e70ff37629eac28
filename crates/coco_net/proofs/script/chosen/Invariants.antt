use Rattle.std.proofs.Common.{◌≡◌, ◌++◌, ◌<◌, ◌||◌, drop, take, length}
use Rattle.std.specs.List.{All}
use Rattle.coco_net.specs.Mail.{picked}
use Rattle.coco_net.specs.Rounds.{script_gives, script_loses}
use Rattle.coco_net.proofs.script.chosen.Given as goal

-- what is given and lost so far, and of the letters to come
abbrev pub invariant-loop-n : goal.invariant-loop-n
invariant-loop-n l = record {
  within : All (λ n. n < length l.sent) l.numbers.items;
  given : picked l.sent l.numbers.items ++ script_gives l.lose l.times (take l.n l.sent) (drop l.n l.sent) ≡ script_gives l.lose l.times (take l.since l.sent) (drop l.since l.sent);
  lost : (l.loses || script_loses l.lose (take l.n l.sent) (drop l.n l.sent)) ≡ script_loses l.lose (take l.since l.sent) (drop l.since l.sent);
}
