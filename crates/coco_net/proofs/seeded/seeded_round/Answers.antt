use Rattle.std.proofs.Common.{◌≡◌, ◌∙◌, ◌&&◌, All, ◌<◌, ap, drop, length, map, rules, subst, ◌%◌, ◌==◌}
use Rattle.std.specs.List.{list_any}
use Rattle.coco_net.specs.Mail.{fresh, given_more, picked}
use Rattle.coco_net.specs.Rounds.{after_words, by_words, loses_by, place_words, words}
use Rattle.coco_net.proofs.ChoiceLemmas.{lost_below, next_is, seeded_is}
use Rattle.coco_net.proofs.seeded.seeded_round.Goals as goal

pub give-requires-clause-room : goal.give-requires-clause-room
give-requires-clause-room c = λ loses. lost_below c.args.post.now.faults c.may_lose-may_lose.result c.in_ok-numbers.loses (list_any loses_by (words (length c.fresh.result.now) c.in_ok-generator.generator)) (c.may_lose-may_lose.ensures ∙ ap (λ n. n) (search rules)) c.in_ok-numbers.ensures.loses loses

pub give-requires-clause-within : goal.give-requires-clause-within
give-requires-clause-within c =
    subst (λ ns. All (λ n. n < length (fresh c.args.post.now)) ns) (search rules) (subst (λ ps. All (λ n. n < length ps) c.in_ok-numbers.numbers.items) c.fresh.ensures c.in_ok-numbers.ensures.within)

pub returns-clause-ok : goal.returns-clause-ok
returns-clause-ok c =
    let s = c.args.post.now in
    let h = c.in_ok-generator.generator in
    let may = c.may_lose-may_lose.result in
    let numbers = c.in_ok-numbers.numbers.items in
    let same : h ≡ c.args.generator.now = search rules in
    let given : picked (fresh s) numbers ≡ by_words may (words (length (fresh s)) h) (fresh s) =
    subst (λ ps. picked ps numbers ≡ by_words may (words (length ps) h) ps) c.fresh.ensures c.in_ok-numbers.ensures.given in
    let lost : c.in_ok-numbers.loses ≡ (may && list_any loses_by (words (length (fresh s)) h)) =
    subst (λ ps. c.in_ok-numbers.loses ≡ (may && list_any loses_by (words (length ps) h))) c.fresh.ensures c.in_ok-numbers.ensures.loses in
    let drawn : c.chosen.new.generator ≡ after_words (length (fresh s)) h =
    subst (λ ps. c.chosen.new.generator ≡ after_words (length ps) h) c.fresh.ensures c.in_ok-numbers.ensures.words in
    let gave : c.give.new.self ≡ given_more s (picked (fresh s) numbers) c.in_ok-turns.turns.items c.in_ok-numbers.loses =
    c.in_ok-give.ensures.ok ∙ ap (λ ns. given_more s (picked (fresh s) ns) c.as_slice-2.result.now c.in_ok-numbers.loses) c.as_slice.ensures.value
    ∙ ap (λ ts. given_more s (picked (fresh s) numbers) ts c.in_ok-numbers.loses) c.as_slice-2.ensures.value in
    seeded_is s c.give.new.self c.args.generator.now h may c.in_ok-numbers.loses (picked (fresh s) numbers) c.in_ok-turns.turns.items gave same (search rules) given lost
    (c.in_ok-turns.ensures.turns ∙ ap (λ g. map (λ w. w % 2 == 1) (place_words g)) drawn)

pub returns-clause-words : goal.returns-clause-words
returns-clause-words c =
    let s = c.args.post.now in
    let h = c.in_ok-generator.generator in
    let same : h ≡ c.args.generator.now = search rules in
    let drawn : c.chosen.new.generator ≡ after_words (length (fresh s)) h =
    subst (λ ps. c.chosen.new.generator ≡ after_words (length ps) h) c.fresh.ensures c.in_ok-numbers.ensures.words in
    next_is s c.args.generator.now h c.chosen.new.generator c.turns.new.generator same drawn c.in_ok-turns.ensures.words
