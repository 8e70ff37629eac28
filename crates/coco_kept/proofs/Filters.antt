-- Filters of a list, and the greatest of the ids that they leave out.
use Rattle.std.proofs.Common.{◌≡◌, ℕ, Bool, true, false, cond, not, max, List, [], ◌∷◌, Option, None, Some, refl, sym, ap, ◌∙◌, arith, true≢false}
use Rattle.std.specs.List.{filter}
use Rattle.coco_types.specs.declared.call.Done.{Done}
use Rattle.coco_ast.specs.History.{greatest_with, ids_of}

module _ {X : Type 0} where
  -- the tests agree at each element
  abbrev pub Agree : (X → Bool) → (X → Bool) → List X → Type 0
  Agree p q [] = Unit {0}
  Agree p q (x ∷ xs) = (p x ≡ q x) × Agree p q xs

  pub filter_same : (p q : X → Bool) (xs : List X) → Agree p q xs → filter p xs ≡ filter q xs
  filter_same p q [] h = refl
  filter_same p q (x ∷ xs) h = λ i. cond (h.0 i) (x ∷ filter_same p q xs h.1 i) (filter_same p q xs h.1 i)

  pub filter_all : (xs : List X) → filter (λ x. true) xs ≡ xs
  filter_all [] = refl
  filter_all (x ∷ xs) = ap (λ l. x ∷ l) (filter_all xs)

  pub filter_none : (xs : List X) → filter (λ x. false) xs ≡ []
  filter_none [] = refl
  filter_none (x ∷ xs) = filter_none xs

  -- an element that the second test takes is one that the first takes
  abbrev pub Within : (X → Bool) → (X → Bool) → List X → Type 0
  Within p q [] = Unit {0}
  Within p q (x ∷ xs) = (q x ≡ true → p x ≡ true) × Within p q xs

  pub filter_within : (p q : X → Bool) (xs : List X) → Within p q xs → filter q (filter p xs) ≡ filter q xs
  filter_within p q [] h = refl
  filter_within p q (x ∷ xs) h = by (p x) (q x) refl h.0 (filter_within p q xs h.1)
    where
      by : (b c : Bool) → q x ≡ c → (c ≡ true → b ≡ true) → filter q (filter p xs) ≡ filter q xs
          → filter q (cond b (x ∷ filter p xs) (filter p xs)) ≡ cond c (x ∷ filter q xs) (filter q xs)
      by true c e g rest = λ i. cond (e i) (x ∷ rest i) (rest i)
      by false true e g rest = absurd (true≢false (sym (g refl)))
      by false false e g rest = rest

-- the greatest of a number, where there is one, and another
abbrev with_one : Option ℕ → ℕ → Option ℕ
with_one f x = greatest_with f (x ∷ [])

greatest-cons : (f : Option ℕ) (x : ℕ) (xs : List ℕ) → greatest_with f (x ∷ xs) ≡ greatest_with (with_one f x) xs
greatest-cons None x xs = refl
greatest-cons (Some n) x xs = refl

swap_max : (n x y : ℕ) → max (max n x) y ≡ max (max n y) x
swap_max n x y = omega arith

swap_ones : (f : Option ℕ) (x y : ℕ) → with_one (with_one f x) y ≡ with_one (with_one f y) x
swap_ones None x y = ap Some (let e : max x y ≡ max y x = omega arith in e)
swap_ones (Some n) x y = ap Some (swap_max n x y)

greatest-one : (f : Option ℕ) (x : ℕ) (xs : List ℕ) → greatest_with (with_one f x) xs ≡ with_one (greatest_with f xs) x
greatest-one f x [] = refl
greatest-one f x (y ∷ ys) =
    greatest-cons (with_one f x) y ys ∙ ap (λ g. greatest_with g ys) (swap_ones f x y) ∙ greatest-one (with_one f y) x ys ∙ ap (λ g. with_one g x) (sym (greatest-cons f y ys))

-- the ids that two filters leave out, one behind the other
pub greatest_left : (p q : Done → Bool) (f : Option ℕ) (ds : List Done) → Within p q ds
    → greatest_with (greatest_with f (ids_of (filter (λ d. not (p d)) ds))) (ids_of (filter (λ d. not (q d)) (filter p ds))) ≡ greatest_with f (ids_of (filter (λ d. not (q d)) ds))
greatest_left p q f [] h = refl
greatest_left p q f (d ∷ ds) h = by (p d) (q d) refl h.0 (greatest_left p q f ds h.1) (greatest_left p q (with_one f d.id) ds h.1)
  where
    by : (b c : Bool) → q d ≡ c → (c ≡ true → b ≡ true)
        → greatest_with (greatest_with f (ids_of (filter (λ x. not (p x)) ds))) (ids_of (filter (λ x. not (q x)) (filter p ds))) ≡ greatest_with f (ids_of (filter (λ x. not (q x)) ds))
        → greatest_with (greatest_with (with_one f d.id) (ids_of (filter (λ x. not (p x)) ds))) (ids_of (filter (λ x. not (q x)) (filter p ds))) ≡ greatest_with (with_one f d.id) (ids_of (filter (λ x. not (q x)) ds))
        → greatest_with (greatest_with f (ids_of (cond (not b) (d ∷ filter (λ x. not (p x)) ds) (filter (λ x. not (p x)) ds)))) (ids_of (filter (λ x. not (q x)) (cond b (d ∷ filter p ds) (filter p ds))))
        ≡ greatest_with f (ids_of (cond (not c) (d ∷ filter (λ x. not (q x)) ds) (filter (λ x. not (q x)) ds)))
    by true true e g same more = ap (λ b. greatest_with (greatest_with f (ids_of (filter (λ x. not (p x)) ds))) (ids_of (cond (not b) (d ∷ filter (λ x. not (q x)) (filter p ds)) (filter (λ x. not (q x)) (filter p ds))))) e ∙ same
    by true false e g same more =
        ap (λ b. greatest_with (greatest_with f (ids_of (filter (λ x. not (p x)) ds))) (ids_of (cond (not b) (d ∷ filter (λ x. not (q x)) (filter p ds)) (filter (λ x. not (q x)) (filter p ds))))) e
        ∙ greatest-cons (greatest_with f (ids_of (filter (λ x. not (p x)) ds))) d.id (ids_of (filter (λ x. not (q x)) (filter p ds)))
        ∙ greatest-one (greatest_with f (ids_of (filter (λ x. not (p x)) ds))) d.id (ids_of (filter (λ x. not (q x)) (filter p ds)))
        ∙ ap (λ g. with_one g d.id) same ∙ sym (greatest-one f d.id (ids_of (filter (λ x. not (q x)) ds))) ∙ sym (greatest-cons f d.id (ids_of (filter (λ x. not (q x)) ds)))
    by false true e g same more = absurd (true≢false (sym (g refl)))
    by false false e g same more =
        ap (λ g. greatest_with g (ids_of (filter (λ x. not (q x)) (filter p ds)))) (greatest-cons f d.id (ids_of (filter (λ x. not (p x)) ds)))
        ∙ more ∙ sym (greatest-cons f d.id (ids_of (filter (λ x. not (q x)) ds)))
