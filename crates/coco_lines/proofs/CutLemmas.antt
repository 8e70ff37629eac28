use Rattle.std.proofs.Common.{◌≡◌, ℕ, ◌+◌, ◌-◌, ◌<◌, ◌≤◌, List, ◌∷◌, ◌++◌, length, take, drop, get_or, false, true, Some, None, sym, ap, ◌∙◌, arith, take-append-drop, length-take-le, length-drop, drop-cons, add-one}
use Rattle.std.proofs.lemmas.List.{drop-drop, drop-take, get_or-take}
use Rattle.std.proofs.lemmas.List.Elements.{All-from_get_or}
use Rattle.std.proofs.lemmas.Bool.{false_from_ne_true}
use Rattle.std.proofs.lemmas.Bool.Decides.{nat_tests}
use Rattle.std.specs.Prelude.{◌==◌, suc}
use Rattle.memchr.specs.Find.{IsFirstByte, is_byte}
use Rattle.coco_lines.specs.Reads.{HasNoFeed}

-- a part of a list without its first elements
pub drop-part : (xs : List ℕ) (start end count : ℕ) → start + count ≤ end → take (end - (start + count)) (drop (start + count) xs) ≡ drop count (take (end - start) (drop start xs))
drop-part xs start end count within =
    let more = end - (start + count) in
    let whole : count + more ≡ end - start = omega arith in
    ap (λ ys. take more ys) (sym (drop-drop count start xs)) ∙ sym (drop-take count more (drop start xs)) ∙ ap (λ n. drop count (take n (drop start xs))) whole

pub length-part : (xs : List ℕ) (start end : ℕ) → start ≤ end → end ≤ length xs → length (take (end - start) (drop start xs)) ≡ end - start
length-part xs start end low high = length-take-le (end - start) (drop start xs) (omega (arith, length-drop start xs))

-- before the first line feed there is none
pub no_feed_before : (xs : List ℕ) (at : ℕ) → IsFirstByte (is_byte 10) xs (Some at) → HasNoFeed (take at xs)
no_feed_before xs at first =
    All-from_get_or (λ b. (b == 10) ≡ false) (take at xs) 0
    (λ i low.
    let len : length (take at xs) ≡ at = length-take-le at xs (omega (arith, first.0.high)) in
    let below : i < at = omega arith in
    false_from_ne_true _ (λ is. first.0.before i (omega arith) below (ap (λ b. b == 10) (sym (get_or-take at xs i 0 below)) ∙ is)))

pub no_feed : (xs : List ℕ) → IsFirstByte (is_byte 10) xs None → HasNoFeed xs
no_feed xs none = All-from_get_or (λ b. (b == 10) ≡ false) xs 0 (λ i low. false_from_ne_true _ (λ is. none i (omega arith) low is))

pub cut_at_feed : (xs : List ℕ) (at : ℕ) → IsFirstByte (is_byte 10) xs (Some at) → xs ≡ take at xs ++ 10 ∷ drop (at + 1) xs
cut_at_feed xs at first =
    let test : (get_or xs at 0 == 10) ≡ true = first.1 in
    let here : get_or xs at 0 ≡ 10 = grind (arith, nat_tests) in
    let rest = ap (λ y. y ∷ drop (suc at) xs) here ∙ ap (λ n. 10 ∷ drop n xs) (sym (add-one at)) in
    sym (take-append-drop at xs) ∙ ap (λ ys. take at xs ++ ys) (drop-cons xs at 0 first.0.high ∙ rest)
