use Rattle.std.proofs.Common.{◌≡◌, ◌++◌, ◌<◌, ◌||◌, ◌&&◌, drop, length}
use Rattle.std.specs.List.{All, list_any}
use Rattle.coco_net.specs.Mail.{picked}
use Rattle.coco_net.specs.Rounds.{after_words, by_words, loses_by, words}
use Rattle.coco_net.proofs.seeded.chosen.Given as goal

-- what is given and lost so far, and of the letters to come by the words to come
abbrev pub invariant-loop-n : goal.invariant-loop-n
invariant-loop-n l =
    let rest = length (drop l.n l.letters) in
    let all = length l.letters in
    record {
      within : All (λ n. n < length l.letters) l.numbers.items;
      given : picked l.letters l.numbers.items ++ by_words l.may_lose (words rest l.generator) (drop l.n l.letters) ≡ by_words l.may_lose (words all l.initial.generator) l.letters;
      lost : (l.loses || (l.may_lose && list_any loses_by (words rest l.generator))) ≡ (l.may_lose && list_any loses_by (words all l.initial.generator));
      after : after_words rest l.generator ≡ after_words all l.initial.generator;
    }
