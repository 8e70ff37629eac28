-- Lists of which each item fits its place.
use Rattle.std.proofs.Common.{◌≡◌, ◌⊎◌, inl, inr, ℕ, zero, suc, ◌+◌, List, [], ◌∷◌, ◌++◌, length, Option, Some, None, refl, sym, ap, subst, ◌∙◌}
use Rattle.std.specs.List.{slice_get}
use Rattle.std.proofs.lemmas.List.{length-append}
use Rattle.std.proofs.lemmas.Option.{same_Some}

module _ {X : Type 0} where
  abbrev pub AtPlaces : (ℕ → X → Type 0) → List X → Type 0
  AtPlaces P xs = (i : ℕ) (x : X) → slice_get xs i ≡ Some x → P i x

  -- an item of a list, or the one behind it
  pub place_cases : (xs : List X) (y : X) (i : ℕ) (x : X) → slice_get (xs ++ y ∷ []) i ≡ Some x → (slice_get xs i ≡ Some x) ⊎ ((i ≡ length xs) × (y ≡ x))
  place_cases [] y zero x there = inr (refl, same_Some y x there)
  place_cases [] y (suc i) x there = absurd (let no : ◌≡◌ {A = Option X} None (Some x) = there in cc)
  place_cases (z ∷ xs) y zero x there = inl there
  place_cases (z ∷ xs) y (suc i) x there = elim (place_cases xs y i x there) [
    | inl here ↦ inl here
    | inr end ↦ inr (ap suc end.0, end.1)
  ]

  pub none_placed : (P : ℕ → X → Type 0) → AtPlaces P []
  none_placed P i x there = absurd (let no : ◌≡◌ {A = Option X} None (Some x) = there in cc)

  pub one_more : (P : ℕ → X → Type 0) (xs : List X) (y : X) → AtPlaces P xs → P (length xs) y → AtPlaces P (xs ++ y ∷ [])
  one_more P xs y all here i x there = elim (place_cases xs y i x there) [
    | inl old ↦ all i x old
    | inr end ↦ subst (λ (j : ℕ). P j x) (sym end.0) (subst (P (length xs)) end.1 here)
  ]

  pub length_more : (xs : List X) (y : X) (more : List X) (n : ℕ) → more ≡ xs ++ y ∷ [] → length xs ≡ n → length more ≡ n + 1
  length_more xs y more n is count = ap length is ∙ length-append xs (y ∷ []) ∙ ap (λ (k : ℕ). k + 1) count

  -- each of the items, and one behind them that fits its place
  pub each_more : (P : ℕ → X → Type 0) (xs : List X) (y : X) (more : List X) (n : ℕ) → more ≡ xs ++ y ∷ [] → length xs ≡ n → AtPlaces P xs → P n y → AtPlaces P more
  each_more P xs y more n is count all here = subst (AtPlaces P) (sym is) (one_more P xs y all (subst (λ (k : ℕ). P k y) (sym count) here))
