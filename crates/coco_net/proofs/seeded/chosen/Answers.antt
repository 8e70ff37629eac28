use Rattle.std.proofs.Common.{◌≡◌, ◌<◌, ◌∙◌, ◌++◌, ◌+◌, ◌||◌, ◌&&◌, ap, length, drop, arith}
use Rattle.std.specs.List.{list_any}
use Rattle.rand_pcg.specs.Pcg.{pcg32}
use Rattle.coco_net.specs.Mail.{picked}
use Rattle.coco_net.specs.Rounds.{after_words, by_words, loses_by, times_by, words}
use Rattle.coco_net.proofs.ChoiceLemmas.{within_more, words_after, words_loss, words_step}
use Rattle.coco_net.proofs.seeded.chosen.Goals as goal

pub loop-n-preserved : goal.loop-n-preserved
loop-n-preserved c =
    let sent = c.args.letters.now in
    let may = c.args.may_lose in
    let n = c.loop-n.n in
    let g = c.loop-n.generator in
    let rest = length (drop (n + 1) sent) in
    let within : n < length sent = omega arith in
    let word : c.next_word-word.result ≡ (pcg32 g).0 = ap (λ p. p.0) c.next_word-word.ensures in
    let next : c.next_word-word.new.self ≡ (pcg32 g).1 = ap (λ p. p.1) c.next_word-word.ensures in
    record {
      within = within_more (length sent) c.loop-n.numbers.items c.push_times.new.numbers.items n c.times_by.result within c.in_ok-push_times.ensures c.loop-n.invariant.within;
      given = ap (λ g. picked sent c.push_times.new.numbers.items ++ by_words may (words rest g) (drop (n + 1) sent)) next
          ∙ words_step sent may n c.times_by.result c.loop-n.numbers.items c.push_times.new.numbers.items g within (c.times_by.ensures ∙ ap (times_by may) word) c.in_ok-push_times.ensures ∙ c.loop-n.invariant.given;
      lost = ap (λ g. c.either-loses.result || (may && list_any loses_by (words rest g))) next
          ∙ words_loss sent may n c.loop-n.loses c.either-loses.result g within (c.either-loses.ensures ∙ ap (λ b. c.loop-n.loses || b) (c.is_lost.ensures ∙ ap (λ w. may && loses_by w) word)) ∙ c.loop-n.invariant.lost;
      after = ap (after_words rest) next ∙ words_after sent n g within ∙ c.loop-n.invariant.after;
    }
