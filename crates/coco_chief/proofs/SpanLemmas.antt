-- Ranges written out.
use Rattle.std.proofs.Common.{◌≡◌, ℕ, zero, suc, ◌+◌, ◌-◌, ◌<◌, ◌≤◌, false, ltb, leb, eqb, List, [], ◌∷◌, ◌++◌, length, take, get_or, refl, sym, ap, ◌∙◌, subst, arith, append_assoc}
use Rattle.std.specs.Prelude.{◌&&◌, ◌||◌}
use Rattle.std.specs.List.Sorted.{IsStrictlyIncreasing}
use Rattle.std.proofs.lemmas.Bool.Decides.{nat_tests}
use Rattle.std.proofs.lemmas.List.{append-nil, take_more, take_all}
use Rattle.std.proofs.lemmas.List.Folds.{list_any-append}
use Rattle.coco_chief.specs.declared.ranges.Range.{Range}
use Rattle.coco_chief.specs.Chief.{has}
use Rattle.coco_chief.specs.Ranges.{covers, is_in, span, span_of, AreRanges}

-- one epoch more
pub span_more : (first n : ℕ) → span first (suc n) ≡ span first n ++ (first + n) ∷ []
span_more first zero = let e : first + 0 ≡ first = omega arith in ap (λ x. x ∷ []) (sym e)
span_more first (suc n) = let e : suc first + n ≡ first + suc n = omega arith in ap (λ xs. first ∷ xs) (span_more (suc first) n ∙ ap (λ x. span (suc first) n ++ x ∷ []) e)

-- the step of a loop that adds one epoch after another
pub span_step : (first n x : ℕ) (before old new : List ℕ) → old ≡ before ++ span first n → x ≡ first + n → new ≡ old ++ x ∷ [] → new ≡ before ++ span first (n + 1)
span_step first n x before old new was is now =
    let e : suc n ≡ n + 1 = omega arith in
    now ∙ ap (λ xs. xs ++ x ∷ []) was ∙ append_assoc before (span first n) (x ∷ []) ∙ ap (λ y. before ++ (span first n ++ y ∷ [])) is
    ∙ ap (λ xs. before ++ xs) (sym (span_more first n)) ∙ ap (λ m. before ++ span first m) e

-- and its end
pub span_whole : (r : Range) (n : ℕ) (before old new : List ℕ) → r.first ≤ r.last → old ≡ before ++ span r.first n → n ≡ r.last - r.first → new ≡ old ++ r.last ∷ [] → new ≡ before ++ span_of r
span_whole r n before old new le was is now =
    let last : r.last ≡ r.first + n = omega arith in
    let all : n + 1 ≡ suc (r.last - r.first) = omega arith in
    span_step r.first n r.last before old new was last now ∙ ap (λ m. before ++ span r.first m) all

abbrev pub written : List Range → List ℕ
written [] = []
written (r ∷ rs) = span_of r ++ written rs

written-append : (rs ss : List Range) → written (rs ++ ss) ≡ written rs ++ written ss
written-append [] ss = refl
written-append (r ∷ rs) ss = ap (λ xs. span_of r ++ xs) (written-append rs ss) ∙ sym (append_assoc (span_of r) (written rs) (written ss))

-- one range more
pub written_more : (rs : List Range) (i : ℕ) (d : Range) (old new : List ℕ) → i < length rs → old ≡ written (take i rs) → new ≡ old ++ span_of (get_or rs i d) → new ≡ written (take (i + 1) rs)
written_more rs i d old new lt was now =
    let r : Range = get_or rs i d in
    now ∙ ap (λ xs. xs ++ span_of r) was ∙ ap (λ xs. written (take i rs) ++ xs) (sym (append-nil (span_of r)))
    ∙ sym (written-append (take i rs) (r ∷ [])) ∙ ap written (sym (take_more rs i d lt))

-- ---- they rise

-- each is above the one before it, and the first is this one or above it
Rise : ℕ → List ℕ → Type 0
Rise low [] = Unit {0}
Rise low (x ∷ xs) = (low ≤ x) × Rise (suc x) xs

rise_lower : (low high : ℕ) (xs : List ℕ) → low ≤ high → Rise high xs → Rise low xs
unfolding Rise
rise_lower low high [] le rise = tt
rise_lower low high (x ∷ xs) le rise = (omega (arith, le, rise.0), rise.1)

span_rises : (low first n : ℕ) (xs : List ℕ) → low ≤ first → Rise (first + n) xs → Rise low (span first n ++ xs)
unfolding Rise
span_rises low first zero xs le rise = rise_lower low (first + 0) xs (omega arith) rise
span_rises low first (suc n) xs le rise =
    let e : first + suc n ≡ suc first + n = omega arith in
    (le, span_rises (suc first) (suc first) n xs (omega arith) (subst (λ m. Rise m xs) e rise))

written_rises : (low : ℕ) (rs : List Range) → AreRanges low rs → Rise low (written rs)
unfolding Rise
written_rises low [] are = tt
written_rises low (r ∷ rs) are =
    let e : suc r.last ≡ r.first + suc (r.last - r.first) = omega (arith, are.1.0) in
    span_rises low r.first (suc (r.last - r.first)) (written rs) are.0 (subst (λ m. Rise m (written rs)) e (written_rises (suc r.last) rs are.1.1))

next_above : (low : ℕ) (xs : List ℕ) (k : ℕ) → Rise low xs → suc k < length xs → get_or xs k 0 < get_or xs (suc k) 0
unfolding Rise
next_above low [] k rise lt = absurd (omega arith)
next_above low (x ∷ []) k rise lt = absurd (omega arith)
next_above low (x ∷ y ∷ ys) zero rise lt = omega (arith, rise.1.0)
next_above low (x ∷ y ∷ ys) (suc k) rise lt = next_above (suc x) (y ∷ ys) k rise.1 (omega arith)

pub written_increases : (rs : List Range) → AreRanges 0 rs → IsStrictlyIncreasing (written rs)
written_increases rs are k lt =
    let e : suc k ≡ k + 1 = omega arith in
    subst (λ m. get_or (written rs) k 0 < get_or (written rs) m 0) e (next_above 0 (written rs) k (written_rises 0 rs are) (omega arith))

-- ---- and are those of the ranges

span_one : (first n x : ℕ) → (eqb first x || (leb (suc first) x && ltb x (suc first + n))) ≡ (leb first x && ltb x (first + suc n))
span_one first n x = grind (arith, nat_tests)

span_none : (first x : ℕ) → (leb first x && ltb x (first + 0)) ≡ false
span_none first x = grind (arith, nat_tests)

span_has : (first n x : ℕ) → has (span first n) x ≡ (leb first x && ltb x (first + n))
span_has first zero x = sym (span_none first x)
span_has first (suc n) x = ap (λ b. eqb first x || b) (span_has (suc first) n x) ∙ span_one first n x

range_has : (r : Range) (x : ℕ) → r.first ≤ r.last → (leb r.first x && ltb x (r.first + suc (r.last - r.first))) ≡ is_in x r
range_has r x le =
    let e : r.first + suc (r.last - r.first) ≡ suc r.last = omega arith in
    ap (λ m. leb r.first x && ltb x m) e ∙ last_in r.first r.last x
  where
    last_in : (a b x : ℕ) → (leb a x && ltb x (suc b)) ≡ (leb a x && leb x b)
    last_in a b x = grind (arith, nat_tests)

written_has_from : (low : ℕ) (rs : List Range) (x : ℕ) → AreRanges low rs → has (written rs) x ≡ covers rs x
written_has_from low [] x are = refl
written_has_from low (r ∷ rs) x are =
    list_any-append (λ y. eqb y x) (span_of r) (written rs) ∙ ap (λ b. b || has (written rs) x) (span_has r.first (suc (r.last - r.first)) x ∙ range_has r x are.1.0)
    ∙ ap (λ b. is_in x r || b) (written_has_from (suc r.last) rs x are.1.1)

pub written_has : (rs : List Range) (x : ℕ) → AreRanges 0 rs → has (written rs) x ≡ covers rs x
written_has rs x are = written_has_from 0 rs x are

-- all ranges are written out
pub written_all : (rs : List Range) (i : ℕ) (xs : List ℕ) → length rs ≤ i → xs ≡ written (take i rs) → xs ≡ written rs
written_all rs i xs le is = is ∙ ap written (take_all i rs le)

-- no range is empty
pub range_is : (low : ℕ) (rs : List Range) (i : ℕ) (d : Range) → AreRanges low rs → i < length rs → (get_or rs i d).first ≤ (get_or rs i d).last
range_is low [] i d are lt = absurd (omega arith)
range_is low (s ∷ rs) zero d are lt = are.1.0
range_is low (s ∷ rs) (suc i) d are lt = range_is (suc s.last) rs i d are.1.1 (omega arith)
