-- Lists of which one place changes.
use Rattle.std.proofs.Common.{◌≡◌, ◌≢◌, ℕ, ◌<◌, Bool, true, false, eqb, List, length, Some, refl, sym, ap, subst, ◌∙◌}
use Rattle.std.specs.List.{slice_get}
use Rattle.std.proofs.Math.ListN.{set}
use Rattle.std.proofs.lemmas.Bool.{eqb-true, eqb-false}
use Rattle.std.proofs.lemmas.Option.{same_Some}
use Rattle.coco_finish.proofs.FinishLemmas.{get_set_other, get_set_same}

-- what holds of each item behind it
pub each_set : {X : Type 0} (xs : List X) (k : ℕ) (new : X) → k < length xs → (P : ℕ → X → Type 0) → P k new → ((n : ℕ) (x : X) → n ≢ k → slice_get xs n ≡ Some x → P n x)
    → (n : ℕ) (x : X) → slice_get (set xs k new) n ≡ Some x → P n x
each_set {X} xs k new within P here others n x at = by (eqb n k) refl
  where
    by : (b : Bool) → eqb n k ≡ b → P n x
    by true is =
        let same : n ≡ k = eqb-true n k is in
        subst (λ (j : ℕ). P j x) (sym same) (subst (P k) (same_Some new x (sym (get_set_same xs k new within) ∙ ap (λ (j : ℕ). slice_get (set xs k new) j) (sym same) ∙ at)) here)
    by false is = let other : n ≢ k = eqb-false n k is in others n x other (sym (get_set_other xs k n new other) ∙ at)

-- the same item put there again
pub set_as_was : {X : Type 0} (xs : List X) (k : ℕ) (x : X) → k < length xs → slice_get xs k ≡ Some x → (n : ℕ) → slice_get (set xs k x) n ≡ slice_get xs n
set_as_was {X} xs k x within there n = by (eqb n k) refl
  where
    by : (b : Bool) → eqb n k ≡ b → slice_get (set xs k x) n ≡ slice_get xs n
    by true is = let same : n ≡ k = eqb-true n k is in
        ap (λ (j : ℕ). slice_get (set xs k x) j) same ∙ get_set_same xs k x within ∙ sym there ∙ ap (λ (j : ℕ). slice_get xs j) (sym same)
    by false is = get_set_other xs k n x (eqb-false n k is)
