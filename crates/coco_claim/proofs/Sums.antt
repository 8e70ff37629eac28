-- Sums over all views.
use Rattle.std.proofs.Common.{◌≡◌, ℕ, zero, suc, ◌+◌, ◌≤◌, List, [], ◌∷◌, set, sum_by, sym, refl, ap, arith}
use Rattle.std.proofs.lemmas.List.Sums.{sum_by-cons}
use mathlib.Core.Option.{some, some-injective, some-ne-none}
use lib.ListN.{get_elem?}

module _ {V : Type 0} where
  abbrev pub EachAt : (V → Type 0) → List V → Type 0
  EachAt P views = (id : ℕ) (v : V) → get_elem? views id ≡ some v → P v

  pub first_at : (P : V → Type 0) (x : V) (xs : List V) → EachAt P (x ∷ xs) → P x
  first_at P x xs each = each 0 x refl

  pub later_at : (P : V → Type 0) (x : V) (xs : List V) → EachAt P (x ∷ xs) → EachAt P xs
  later_at P x xs each id v e = each (suc id) v e

  pub sum_set : (f : V → ℕ) (views : List V) (id : ℕ) (v w : V) → get_elem? views id ≡ some v → sum_by f (set views id w) + f v ≡ sum_by f views + f w
  sum_set f [] id v w e = absurd (some-ne-none v (sym e))
  sum_set f (x ∷ xs) zero v w e =
      let a = sum_by-cons f w xs in
      let b = sum_by-cons f x xs in
      let c : f x ≡ f v = ap f (some-injective x v e) in
      omega arith
  sum_set f (x ∷ xs) (suc id) v w e =
      let a = sum_by-cons f x (set xs id w) in
      let b = sum_by-cons f x xs in
      let c = sum_set f xs id v w e in
      omega arith

  pub sum_le : (f g : V → ℕ) (views : List V) → EachAt (λ v. f v ≤ g v) views → sum_by f views ≤ sum_by g views
  sum_le f g [] each = omega arith
  sum_le f g (x ∷ xs) each =
      let a = sum_by-cons f x xs in
      let b = sum_by-cons g x xs in
      let c : f x ≤ g x = each 0 x refl in
      let d = sum_le f g xs (later_at (λ v. f v ≤ g v) x xs each) in
      omega arith

  pub one_le : (f : V → ℕ) (views : List V) (id : ℕ) (v : V) → get_elem? views id ≡ some v → f v ≤ sum_by f views
  one_le f [] id v e = absurd (some-ne-none v (sym e))
  one_le f (x ∷ xs) zero v e = let a = sum_by-cons f x xs in let c : f x ≡ f v = ap f (some-injective x v e) in omega arith
  one_le f (x ∷ xs) (suc id) v e = let a = sum_by-cons f x xs in let c = one_le f xs id v e in omega arith

  -- where g is 0 in all, f is
  pub none_left : (f g : V → ℕ) (views : List V) → EachAt (λ v. g v ≡ 0 → f v ≡ 0) views → sum_by g views ≡ 0 → sum_by f views ≡ 0
  none_left f g [] each none = refl
  none_left f g (x ∷ xs) each none =
      let a = sum_by-cons f x xs in
      let b = sum_by-cons g x xs in
      let c : f x ≡ 0 = each 0 x refl (omega arith) in
      let d = none_left f g xs (later_at (λ v. g v ≡ 0 → f v ≡ 0) x xs each) (omega arith) in
      omega arith

  -- where one view has all of g, it has all of f
  pub all_in_one : (f g : V → ℕ) (views : List V) → EachAt (λ v. g v ≡ 0 → f v ≡ 0) views → (id : ℕ) (v : V) → get_elem? views id ≡ some v → sum_by g views ≡ g v → sum_by f views ≡ f v
  all_in_one f g [] each id v e whole = absurd (some-ne-none v (sym e))
  all_in_one f g (x ∷ xs) each zero v e whole =
      let a = sum_by-cons f x xs in
      let b = sum_by-cons g x xs in
      let c : f x ≡ f v = ap f (some-injective x v e) in
      let d : g x ≡ g v = ap g (some-injective x v e) in
      let i = none_left f g xs (later_at (λ u. g u ≡ 0 → f u ≡ 0) x xs each) (omega arith) in
      omega arith
  all_in_one f g (x ∷ xs) each (suc id) v e whole =
      let a = sum_by-cons f x xs in
      let b = sum_by-cons g x xs in
      let c = one_le g xs id v e in
      let d : f x ≡ 0 = each 0 x refl (omega arith) in
      let i = all_in_one f g xs (later_at (λ u. g u ≡ 0 → f u ≡ 0) x xs each) id v e (omega arith) in
      omega arith
