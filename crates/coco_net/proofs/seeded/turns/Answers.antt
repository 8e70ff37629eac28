use Rattle.std.proofs.Common.{◌≡◌, ◌-◌, ◌+◌, ◌∙◌, suc, arith, refl, rules}
use Rattle.coco_net.proofs.ChoiceLemmas.{all_turned, begin_after, begin_turns, no_more_words, turns_more, words_less}
use Rattle.coco_net.proofs.seeded.turns.Goals as goal

pub loop-place-init : goal.loop-place-init
loop-place-init c = record {
  turns = begin_turns c.new-turns.result.items 9 c.args.generator.now (search rules) refl;
  after = begin_after 9 c.args.generator.now refl;
}

pub loop-place-preserved : goal.loop-place-preserved
loop-place-preserved c =
    let left : 9 - c.loop-place._place ≡ suc (9 - (c.loop-place._place + 1)) = omega arith in
    record {
      turns = turns_more c.loop-place.turns.items c.push.new.self.items c.loop-place.generator c.next_word.new.self c.next_word.result (9 - c.loop-place._place) (9 - (c.loop-place._place + 1)) left c.next_word.ensures (search rules) ∙ c.loop-place.invariant.turns;
      after = words_less c.loop-place.generator c.next_word.new.self c.next_word.result (9 - c.loop-place._place) (9 - (c.loop-place._place + 1)) left c.next_word.ensures ∙ c.loop-place.invariant.after;
    }

pub returns-clause-turns : goal.returns-clause-turns
returns-clause-turns c = all_turned c.loop-place.turns.items (9 - c.loop-place._place) c.loop-place.generator (omega arith) ∙ c.loop-place.invariant.turns

pub returns-clause-words : goal.returns-clause-words
returns-clause-words c = no_more_words (9 - c.loop-place._place) c.loop-place.generator (omega arith) ∙ c.loop-place.invariant.after
