-- Committed epochs that are written out are those of the files.
use Rattle.std.proofs.Common.{◌≡◌, ◌⊎◌, inl, inr, ℕ, suc, ◌+◌, ◌<◌, ◌≤◌, Bool, true, false, eqb, List, [], ◌∷◌, refl, sym, ap, subst, ◌∙◌, arith}
use Rattle.std.specs.Prelude.{◌||◌, slice_index}
use Rattle.std.specs.List.Sorted.{IsStrictlyIncreasing}
use Rattle.std.proofs.lemmas.Bool.{eqb-true, eq-eqb}
use Rattle.coco_ast.specs.History.{RisesAbove}
use Rattle.coco_chief.specs.Chief.{has}

rises_more : (b x : ℕ) (xs : List ℕ) → b < x → IsStrictlyIncreasing (x ∷ xs) → RisesAbove b (x ∷ xs)
rises_more b x [] less rising = (less, tt)
rises_more b x (y ∷ ys) less rising = (
  less,
  rises_more x y ys (rising 0 (omega arith)) (λ k lt.
      let next : suc k + 1 ≡ suc (k + 1) = omega arith in
      subst (λ (j : ℕ). slice_index (y ∷ ys) k < slice_index (x ∷ y ∷ ys) j) next (rising (suc k) (omega (arith, lt)))),
)

has_here : (x : ℕ) (xs : List ℕ) → has (x ∷ xs) x ≡ true
has_here x xs = ap (λ (b : Bool). b || has xs x) (eq-eqb x x refl)

-- numbers that rise, all above this one
pub rises_above : (b : ℕ) (xs : List ℕ) → IsStrictlyIncreasing xs → ((e : ℕ) → has xs e ≡ true → b < e) → RisesAbove b xs
rises_above b [] rising above = tt
rises_above b (x ∷ xs) rising above = rises_more b x xs (above x (has_here x xs)) rising

cases_has : (x : ℕ) (xs : List ℕ) (e : ℕ) → has (x ∷ xs) e ≡ true → (x ≡ e) ⊎ (has xs e ≡ true)
cases_has x xs e is = by (eqb x e) refl
  where
    by : (b : Bool) → eqb x e ≡ b → (x ≡ e) ⊎ (has xs e ≡ true)
    by true at = inl (eqb-true x e at)
    by false at = inr (sym (ap (λ (b : Bool). b || has xs e) at) ∙ is)

-- each of them is above it
pub all_above : (b : ℕ) (xs : List ℕ) → RisesAbove b xs → (e : ℕ) → has xs e ≡ true → b < e
all_above b [] rises e is = absurd cc
all_above b (x ∷ xs) rises e is = elim (cases_has x xs e is) [
  | inl here ↦ subst (λ (k : ℕ). b < k) here rises.0
  | inr later ↦ (let first : b < x = rises.0 in let more : x < e = all_above x xs rises.1 e later in omega (arith, first, more))
]

least : (b : ℕ) (xs : List ℕ) (x e : ℕ) → RisesAbove b (x ∷ xs) → has (x ∷ xs) e ≡ true → x ≤ e
least b xs x e rises is = elim (cases_has x xs e is) [
  | inl here ↦ omega (arith, here)
  | inr later ↦ (let more : x < e = all_above x xs rises.1 e later in omega (arith, more))
]

rest_alike : (x : ℕ) (xs ys : List ℕ) → RisesAbove x xs → RisesAbove x ys → ((e : ℕ) → has (x ∷ xs) e ≡ has (x ∷ ys) e) → (e : ℕ) → has xs e ≡ has ys e
rest_alike x xs ys up up_too same e = by (eqb x e) refl
  where
    none : (zs : List ℕ) → RisesAbove x zs → x ≡ e → has zs e ≡ false
    none zs rises is = test (has zs e) refl
      where
        test : (b : Bool) → has zs e ≡ b → has zs e ≡ false
        test true at = absurd (let more : x < e = all_above x zs rises e at in omega (arith, more, is))
        test false at = at

    by : (b : Bool) → eqb x e ≡ b → has xs e ≡ has ys e
    by true at = let is : x ≡ e = eqb-true x e at in none xs up is ∙ sym (none ys up_too is)
    by false at = sym (ap (λ (b : Bool). b || has xs e) at) ∙ same e ∙ ap (λ (b : Bool). b || has ys e) at

-- two lists that rise and have the same numbers are one
pub same_rising : (b : ℕ) (xs ys : List ℕ) → RisesAbove b xs → RisesAbove b ys → ((e : ℕ) → has xs e ≡ has ys e) → xs ≡ ys
same_rising b [] [] up up_too same = refl
same_rising b [] (y ∷ ys) up up_too same = absurd (let both : false ≡ true = same y ∙ has_here y ys in cc)
same_rising b (x ∷ xs) [] up up_too same = absurd (let both : false ≡ true = sym (same x) ∙ has_here x xs in cc)
same_rising b (x ∷ xs) (y ∷ ys) up up_too same =
    let low : y ≤ x = least b ys y x up_too (sym (same x) ∙ has_here x xs) in
    let high : x ≤ y = least b xs x y up (same y ∙ has_here y ys) in
    let one : x ≡ y = omega (arith, low, high) in
    let rest : RisesAbove x ys = subst (λ (k : ℕ). RisesAbove k ys) (sym one) up_too.1 in
    ap (λ (k : ℕ). k ∷ xs) one
    ∙ ap (λ (zs : List ℕ). y ∷ zs) (same_rising x xs ys up.1 rest (rest_alike x xs ys up.1 rest (λ e. same e ∙ ap (λ (k : ℕ). has (k ∷ ys) e) (sym one))))
