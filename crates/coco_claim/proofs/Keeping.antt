-- Each step keeps the rule of the claims' table.
use Rattle.std.proofs.Common.{◌≡◌, ◌≢◌, ℕ, zero, suc, ◌+◌, ◌%◌, ◌^◌, ◌≤◌, ◌<◌, List, [], ◌∷◌, ◌++◌, length, take, drop, get_or, set, sym, refl, ap, ◌∙◌, subst, ⊎_elim, arith, length-set, get_or-set_same, length-append, take-append-drop}
use Rattle.std.specs.Prelude.{All}
use Rattle.std.proofs.lemmas.Bool.Decides.{nat_tests}
use Rattle.std.proofs.lemmas.List.Sums.{sum_by-cons, sum_by_push}
use Rattle.std.proofs.lemmas.List.FromFn.{length-range_with_len}
use mathlib.Core.Option.{none, some, some-injective, some-ne-none}
use lib.ListN.{get_elem?}
use Rattle.atomic_table.specs.Table.{State, step, keeps, opening, Allows, Splits, Joins}
use Rattle.atomic_table.proofs.Lists.{at_set, at_snoc}
use Rattle.coco_claim.specs.declared.hand.Plan.{Plan}
use Rattle.coco_claim.specs.declared.hand.Hand.{Hand}
use Rattle.coco_claim.specs.Numbers.{times, once_below, late}
use Rattle.coco_claim.specs.Drawing.{IsFair, Claimed, Sat, Drawn, first_hand, less_a_mark, one_mark, both, spent}
use Rattle.coco_claim.proofs.Sums.{EachAt, sum_set, sum_le, one_le, all_in_one}
use Rattle.coco_claim.proofs.Counts.{times-push, times-append, late-push, late-append, once_below-more, once_below-here, once_below-none, times-at, times-range}

fair_set : (n : ℕ) (views : List Hand) (id : ℕ) (w : Hand) → EachAt (IsFair n) views → IsFair n w → EachAt (IsFair n) (set views id w)
fair_set n views id w each fair j u e =
    ⊎_elim (λ (t : (j ≡ id) × (w ≡ u)). subst (IsFair n) t.1 fair) (λ (t : (j ≢ id) × (get_elem? views j ≡ some u)). each j u t.1) (at_set views id j w u e)

fair_push : (n : ℕ) (views : List Hand) (w : Hand) → EachAt (IsFair n) views → IsFair n w → EachAt (IsFair n) (views ++ w ∷ [])
fair_push n views w each fair j u e = ⊎_elim (λ was. each j u was) (λ (same : w ≡ u). subst (IsFair n) same fair) (at_snoc views w u j e)

counter-small : (p : Plan) (s : State (Unit {0}) Hand) → Claimed p s → get_or s.words 1 0 ≤ p.n + p.seats
counter-small p s h =
    let a = sum_le (λ v. late p.n v.drawn) (λ v. length v.marks) s.views (λ id v e. (h.each_view id v e).ended) in
    let b = h.all_marks in
    let c = h.counter in
    omega arith

all_smaller : (p : Plan) (s : State (Unit {0}) Hand) → Claimed p s → (id : ℕ) (v : Hand) → get_elem? s.views id ≡ some v → All (λ y. y < get_or s.words 1 0) v.drawn
all_smaller p s h id v at k d inside =
    let y = get_or v.drawn k d in
    let a = times-at v.drawn k d inside in
    let b = one_le (λ (u : Hand). times y u.drawn) s.views id v at in
    let c = h.each_number y in
    once_below-here (get_or s.words 1 0) y (omega arith)

few : (p : Plan) (s : State (Unit {0}) Hand) → Claimed p s → (id : ℕ) (v : Hand) → get_elem? s.views id ≡ some v → length v.drawn ≤ get_or s.words 1 0
few p s h id v at = let a = one_le (λ (u : Hand). length u.drawn) s.views id v at in let b = h.all_numbers in omega arith

abbrev gains : Hand → ℕ → Hand
gains v x = record { plan = v.plan; marks = v.marks; drawn = v.drawn ++ x ∷ [] }

drawn_more : (p : Plan) (s : State (Unit {0}) Hand) → Claimed p s → (id : ℕ) (v : Hand) → get_elem? s.views id ≡ some v → late p.n v.drawn ≡ 0 → 0 < length v.marks
    → Claimed p record { words = set s.words 1 (get_or s.words 1 0 + 1); homes = s.homes; views = set s.views id (gains v (get_or s.words 1 0)) }
drawn_more p s h id v at fresh marked =
    let x : ℕ = get_or s.words 1 0 in
    let w : Hand = gains v x in
    let counter : get_or (set s.words 1 (x + 1)) 1 0 ≡ x + 1 = get_or-set_same s.words 1 (x + 1) 0 (omega (arith, h.words)) in
    record {
      words = length-set s.words 1 (x + 1) ∙ h.words;
      each_number = λ y.
          let a = sum_set (λ (u : Hand). times y u.drawn) s.views id v w at in
          let b = times-push y v.drawn x in
          let c = once_below-more x y in
          let d = h.each_number y in
          let e : once_below (get_or (set s.words 1 (x + 1)) 1 0) y ≡ once_below (x + 1) y = ap (λ n. once_below n y) counter in
          omega arith;
      each_mark = λ m. let a = sum_set (λ (u : Hand). times m u.marks) s.views id v w at in let b = h.each_mark m in omega arith;
      all_marks = let a = sum_set (λ (u : Hand). length u.marks) s.views id v w at in let b = h.all_marks in omega arith;
      all_numbers =
          let a = sum_set (λ (u : Hand). length u.drawn) s.views id v w at in
          let b = length-append v.drawn (x ∷ []) in
          let c = h.all_numbers in
          omega arith;
      each_view = fair_set p.n s.views id w h.each_view record {
        unmarked = λ (bare : v.marks ≡ []). let none : length v.marks ≡ 0 = ap length bare in absurd (omega arith);
        ended = let a = late-push p.n v.drawn x in grind (arith, nat_tests);
      };
      counter =
          let a = sum_set (λ (u : Hand). late p.n u.drawn) s.views id v w at in
          let b = late-push p.n v.drawn x in
          let c = h.counter in
          grind (arith, nat_tests);
    }

pub draws : (p : Plan) (slots id : ℕ) (me : Sat) → late p.n me.0.drawn ≡ 0 → 0 < length me.0.marks → p.n < 2 ^ 32 → p.seats < 2 ^ 32
    → Allows (Claimed p) slots id me 1 (λ n. (n + 1) % 2 ^ 64) (Drawn (step slots 1 1 0 none) me)
draws p slots id me fresh marked n_fits seats_fit s h _ at _ =
    let x : ℕ = get_or s.words 1 0 in
    let small = counter-small p s h in
    let same : x + 1 ≡ (x + 1) % 18446744073709551616 = omega arith in (
      gains me.0 x,
      keeps,
      tt,
      subst (λ n. Claimed p record { words = set s.words 1 n; homes = s.homes; views = set s.views id (gains me.0 x) }) same (drawn_more p s h id me.0 at fresh marked),
      (refl, all_smaller p s h id me.0 at, few p s h id me.0 at),
    )

-- The marks and numbers of two views are those of one, where each number and mark stands as often
pub splits : (p : Plan) (id : ℕ) (v : Hand) → v.drawn ≡ [] → Splits (Claimed p) id v (less_a_mark v) (one_mark v)
splits p id v empty s h at =
    let left = less_a_mark v in
    let right = one_mark v in
    let fair : (w : Hand) → w.drawn ≡ [] → IsFair p.n w = λ w bare. record { unmarked = λ _. bare; ended = let a : late p.n w.drawn ≡ 0 = ap (late p.n) bare in omega arith } in
    record {
      words = h.words;
      each_number = λ x.
          let a = sum_set (λ (u : Hand). times x u.drawn) s.views id v left at in
          let b = sum_by_push (λ (u : Hand). times x u.drawn) (set s.views id left) right in
          let c = h.each_number x in
          omega arith;
      each_mark = λ m.
          let a = sum_set (λ (u : Hand). times m u.marks) s.views id v left at in
          let b = sum_by_push (λ (u : Hand). times m u.marks) (set s.views id left) right in
          let c = h.each_mark m in
          let d = times-append m (take 1 v.marks) (drop 1 v.marks) in
          let e : times m (take 1 v.marks ++ drop 1 v.marks) ≡ times m v.marks = ap (times m) (take-append-drop 1 v.marks) in
          omega arith;
      all_marks =
          let a = sum_set (λ (u : Hand). length u.marks) s.views id v left at in
          let b = sum_by_push (λ (u : Hand). length u.marks) (set s.views id left) right in
          let c = h.all_marks in
          let d = length-append (take 1 v.marks) (drop 1 v.marks) in
          let e : length (take 1 v.marks ++ drop 1 v.marks) ≡ length v.marks = ap length (take-append-drop 1 v.marks) in
          omega arith;
      all_numbers =
          let a = sum_set (λ (u : Hand). length u.drawn) s.views id v left at in
          let b = sum_by_push (λ (u : Hand). length u.drawn) (set s.views id left) right in
          let c = h.all_numbers in
          omega arith;
      each_view = fair_push p.n (set s.views id left) right (fair_set p.n s.views id left h.each_view (fair left empty)) (fair right refl);
      counter =
          let a = sum_set (λ (u : Hand). late p.n u.drawn) s.views id v left at in
          let b = sum_by_push (λ (u : Hand). late p.n u.drawn) (set s.views id left) right in
          let c = h.counter in
          omega arith;
    }

append_empty : (xs ys : List ℕ) → xs ++ ys ≡ [] → (xs ≡ []) × (ys ≡ [])
append_empty [] ys e = (refl, e)
append_empty (x ∷ xs) ys e = absurd (cc)

pub joins : (p : Plan) (id : ℕ) (v : Hand) (other : ℕ) (w : Hand) → Joins (Claimed p) id v other w (both v w) spent
joins p id v other w s h at apart there =
    let u = both v w in
    let mine = h.each_view id v at in
    let theirs : IsFair p.n w = ⊎_elim (λ (t : (other ≡ id) × (u ≡ w)). absurd (apart t.0)) (λ (t : (other ≢ id) × (get_elem? s.views other ≡ some w)). h.each_view other w t.1) (at_set s.views id other u w there) in
    let joined : IsFair p.n u = record {
      unmarked = λ bare. let m = append_empty v.marks w.marks bare in let a = mine.unmarked m.0 in let b = theirs.unmarked m.1 in ap (λ xs. xs ++ w.drawn) a ∙ b;
      ended = let a = late-append p.n v.drawn w.drawn in let b = mine.ended in let c = theirs.ended in let d = length-append v.marks w.marks in omega arith;
    } in
    let nothing : IsFair p.n spent = record { unmarked = λ _. refl; ended = omega arith } in
    record {
      words = h.words;
      each_number = λ x.
          let a = sum_set (λ (t : Hand). times x t.drawn) s.views id v u at in
          let b = sum_set (λ (t : Hand). times x t.drawn) (set s.views id u) other w spent there in
          let c = h.each_number x in
          let d = times-append x v.drawn w.drawn in
          omega arith;
      each_mark = λ m.
          let a = sum_set (λ (t : Hand). times m t.marks) s.views id v u at in
          let b = sum_set (λ (t : Hand). times m t.marks) (set s.views id u) other w spent there in
          let c = h.each_mark m in
          let d = times-append m v.marks w.marks in
          omega arith;
      all_marks =
          let a = sum_set (λ (t : Hand). length t.marks) s.views id v u at in
          let b = sum_set (λ (t : Hand). length t.marks) (set s.views id u) other w spent there in
          let c = h.all_marks in
          let d = length-append v.marks w.marks in
          omega arith;
      all_numbers =
          let a = sum_set (λ (t : Hand). length t.drawn) s.views id v u at in
          let b = sum_set (λ (t : Hand). length t.drawn) (set s.views id u) other w spent there in
          let c = h.all_numbers in
          let d = length-append v.drawn w.drawn in
          omega arith;
      each_view = fair_set p.n (set s.views id u) other spent (fair_set p.n s.views id u h.each_view joined) nothing;
      counter =
          let a = sum_set (λ (t : Hand). late p.n t.drawn) s.views id v u at in
          let b = sum_set (λ (t : Hand). late p.n t.drawn) (set s.views id u) other w spent there in
          let c = h.counter in
          let d = late-append p.n v.drawn w.drawn in
          omega arith;
    }

pub opens : (p : Plan) → Claimed p (opening (0 ∷ 0 ∷ []) [] (first_hand p))
opens p = record {
  words = refl;
  each_number = λ x. let a = once_below-none x in omega arith;
  each_mark = λ m. let a = times-range 0 p.seats m in let b = sum_by-cons (λ (v : Hand). times m v.marks) (first_hand p) [] in grind (arith, nat_tests);
  all_marks = let a = length-range_with_len 0 p.seats in omega arith;
  all_numbers = refl;
  each_view = λ id v e. first_fair id v e;
  counter = omega arith;
}
  where
    first_fair : (id : ℕ) (v : Hand) → get_elem? (first_hand p ∷ []) id ≡ some v → IsFair p.n v
    first_fair zero v e = subst (IsFair p.n) (some-injective _ _ e) record { unmarked = λ _. refl; ended = omega arith }
    first_fair (suc id) v e = absurd (some-ne-none v (sym e))

-- A view with as many marks as there are seats has each number that was drawn, once
pub whole : (p : Plan) (s : State (Unit {0}) Hand) → Claimed p s → (id : ℕ) (v : Hand) → get_elem? s.views id ≡ some v → length v.marks ≡ p.seats
    → (x : ℕ) → times x v.drawn ≡ once_below (get_or s.words 1 0) x
whole p s h id v at all x =
    let bare : EachAt (λ (u : Hand). length u.marks ≡ 0 → times x u.drawn ≡ 0) s.views = λ j u e none. ap (times x) ((h.each_view j u e).unmarked (empty_of u.marks none)) in
    sym (all_in_one (λ (u : Hand). times x u.drawn) (λ (u : Hand). length u.marks) s.views bare id v at (h.all_marks ∙ sym all)) ∙ h.each_number x
  where
    empty_of : (xs : List ℕ) → length xs ≡ 0 → xs ≡ []
    empty_of [] e = refl
    empty_of (y ∷ ys) e = absurd (omega arith)
