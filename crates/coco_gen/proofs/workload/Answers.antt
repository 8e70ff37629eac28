use Rattle.std.proofs.Common.{◌≡◌, ◌+◌, ◌*◌, ◌%◌, ◌≤◌, pos, neg_ℤ, ◌++◌, ◌∷◌, [], ap, ◌∙◌, refl, arith}
use Rattle.rand_pcg.specs.Pcg.{pcg32}
use Rattle.coco_gen.specs.Workload.{generator_of, word_at, words_from}
use Rattle.coco_gen.proofs.PairLemmas.{added, first_calls, is_first, is_second, next_words, no_words, taken, two_more, word-at}
use Rattle.coco_gen.proofs.workload.Goals as goal

pub loop-pair-init : goal.loop-pair-init
loop-pair-init c = record { made = c.in_ok-requests.ensures.items; drawn = c.seed_from_u64-generator.ensures ∙ no_words (generator_of c.args.seed) }

pub loop-pair-preserved : goal.loop-pair-preserved
loop-pair-preserved c =
    let seed = c.args.seed in
    let p = c.loop-pair.pair in
    let g = generator_of seed in
    let after_one : c.next_word-gains.new.self ≡ words_from (3 * p + 1) g = ap (λ w. w.1) c.next_word-gains.ensures ∙ ap (λ s. (pcg32 s).1) c.loop-pair.invariant.drawn ∙ next_words g (3 * p) (3 * p + 1) refl in
    let after_two : c.next_word.new.self ≡ words_from (3 * p + 2) g = ap (λ w. w.1) c.next_word.ensures ∙ ap (λ s. (pcg32 s).1) after_one ∙ next_words g (3 * p + 1) (3 * p + 2) (omega arith) in
    let after_three : c.next_word-loses.new.self ≡ words_from (3 * (p + 1)) g = ap (λ w. w.1) c.next_word-loses.ensures ∙ ap (λ s. (pcg32 s).1) after_two ∙ next_words g (3 * p + 2) (3 * (p + 1)) (omega arith) in
    let gains : c.next_word-gains.result ≡ word_at seed (3 * p) = ap (λ w. w.0) c.next_word-gains.ensures ∙ ap (λ s. (pcg32 s).0) c.loop-pair.invariant.drawn ∙ word-at seed (3 * p) in
    let much : c.next_word.result ≡ word_at seed (3 * p + 1) = ap (λ w. w.0) c.next_word.ensures ∙ ap (λ s. (pcg32 s).0) after_one ∙ word-at seed (3 * p + 1) in
    let loses : c.next_word-loses.result ≡ word_at seed (3 * p + 2) = ap (λ w. w.0) c.next_word-loses.ensures ∙ ap (λ s. (pcg32 s).0) after_two ∙ word-at seed (3 * p + 2) in
    let id : seed * 1048576 + 2 * c.from.result + 1 ≡ seed * 1048576 + 2 * p + 1 = ap (λ n. seed * 1048576 + 2 * n + 1) c.from.ensures in
    let amount = ap (λ n. n % 1000 + 1) much in
    let wanted = word_at seed (3 * p + 1) % 1000 + 1 in
    let few : wanted ≤ 1000 = omega arith in
    record {
      made = c.in_ok-push-2.ensures.items ∙ ap (λ l. l ++ c.in_ok-addition-2.field-0 ∷ []) c.in_ok-push.ensures.items
          ∙ two_more seed p c.loop-pair.requests.items c.in_ok-addition.field-0 c.in_ok-addition-2.field-0 c.loop-pair.invariant.made
          (is_first seed p _ _ _ c.in_ok-addition.field-0 c.in_ok-addition.ensures id (ap (λ n. n % 1000) gains) (added wanted _ few (c.from-in-loop-pair.ensures ∙ ap pos amount)))
          (is_second seed p _ _ _ c.in_ok-addition-2.field-0 c.in_ok-addition-2.ensures id (ap (λ n. n % 1000) loses) (taken wanted _ few (c.less.ensures ∙ ap (λ n. neg_ℤ (pos n)) amount)));
      drawn = after_three;
    }

pub returns : goal.returns
returns c =
    c.truncate.ensures.items ∙ first_calls c.args.seed c.args.calls c.loop-pair.pair c.loop-pair.requests.items (omega (arith, c.loop-pair-test.false, c.loop-pair.auto.pair-end)) c.loop-pair.invariant.made
