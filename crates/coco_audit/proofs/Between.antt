-- The items of a list from one place up to another.
use Rattle.std.proofs.Common.{◌≡◌, ℕ, suc, ◌+◌, ◌-◌, ◌<◌, ◌≤◌, List, [], ◌∷◌, ◌++◌, length, take, drop, get_or, Some, arith, sym, ap, subst, ◌∙◌, add-one}
use Rattle.std.specs.List.{slice_get, AllByRecursion}
use Rattle.std.proofs.Math.Nat.{sub_self}
use Rattle.std.proofs.Math.Seq.{drop-cons}
use Rattle.std.proofs.lemmas.List.{get_or-drop, length-drop, length-take-le, take-append-drop, take_all, take_more}
use Rattle.std.proofs.lemmas.Option.{slice_get_within, get_or_from_slice_get}

module _ {X : Type 0} where
  abbrev pub between : ℕ → ℕ → List X → List X
  between first place xs = take (place - first) (drop first xs)

  -- none are before the first one
  pub between-start : (xs : List X) (first : ℕ) → between first first xs ≡ []
  between-start xs first = ap (λ n. take n (drop first xs)) (sub_self first)

  -- all of them are before the end
  pub between-end : (xs : List X) (first place : ℕ) → length xs ≤ place → between first place xs ≡ drop first xs
  between-end xs first place past = take_all (place - first) (drop first xs) (omega (arith, length-drop first xs))

  within : (xs : List X) (first place : ℕ) (x : X) → first ≤ place → slice_get xs place ≡ Some x → place - first < length (drop first xs)
  within xs first place x after at = omega (arith, length-drop first xs, slice_get_within xs place x at)

  item : (xs : List X) (first place : ℕ) (x : X) → first ≤ place → slice_get xs place ≡ Some x → get_or (drop first xs) (place - first) x ≡ x
  item xs first place x after at =
      let there : first + (place - first) ≡ place = omega arith in
      get_or-drop first xs (place - first) x ∙ ap (λ n. get_or xs n x) there ∙ get_or_from_slice_get xs place x x at

  pub length-between : (xs : List X) (first place : ℕ) (x : X) → first ≤ place → slice_get xs place ≡ Some x → length (between first place xs) ≡ place - first
  length-between xs first place x after at =
      let less = within xs first place x after at in
      length-take-le (place - first) (drop first xs) (omega (arith, less))

  -- one more
  pub between-more : (xs : List X) (first place : ℕ) (x : X) → first ≤ place → slice_get xs place ≡ Some x → between first (place + 1) xs ≡ between first place xs ++ x ∷ []
  between-more xs first place x after at =
      let next : place + 1 - first ≡ place - first + 1 = omega arith in
      ap (λ n. take n (drop first xs)) next ∙ take_more (drop first xs) (place - first) x (within xs first place x after at)
      ∙ ap (λ y. between first place xs ++ y ∷ []) (item xs first place x after at)

  -- what comes before an item, the item, and what comes behind it
  pub between-whole : (xs : List X) (first place : ℕ) (x : X) → first ≤ place → slice_get xs place ≡ Some x
      → drop first xs ≡ between first place xs ++ x ∷ drop (place - first + 1) (drop first xs)
  between-whole xs first place x after at =
      sym (take-append-drop (place - first) (drop first xs))
      ∙ ap (λ ys. between first place xs ++ ys) (drop-cons (drop first xs) (place - first) x (within xs first place x after at))
      ∙ ap (λ y. between first place xs ++ y ∷ drop (suc (place - first)) (drop first xs)) (item xs first place x after at)
      ∙ ap (λ n. between first place xs ++ x ∷ drop n (drop first xs)) (sym (add-one (place - first)))

  -- what holds of all holds of one
  pub all_at : (P : X → Type 0) (xs ys : List X) (x : X) → AllByRecursion P (xs ++ x ∷ ys) → P x
  all_at P [] ys x all = all.0
  all_at P (z ∷ xs) ys x all = all_at P xs ys x all.1

  pub all_between : (P : X → Type 0) (xs : List X) (first place : ℕ) (x : X) → first ≤ place → slice_get xs place ≡ Some x → AllByRecursion P (drop first xs) → P x
  all_between P xs first place x after at all = all_at P (between first place xs) _ x (subst (AllByRecursion P) (between-whole xs first place x after at) all)
