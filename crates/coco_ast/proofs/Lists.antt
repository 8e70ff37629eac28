-- Facts on each item of a list, and lists of distinct numbers.
use Rattle.std.proofs.Common.{◌≡◌, ℕ, Bool, true, false, cond, nat_eq, List, [], ◌∷◌, ◌++◌, map, filter, refl, ap, ◌∙◌}
use Rattle.std.specs.List.{AllByRecursion, IsDistinct}

module _ {X : Type 0} where
  pub all_append : (P : X → Type 0) (xs ys : List X) → AllByRecursion P xs → AllByRecursion P ys → AllByRecursion P (xs ++ ys)
  all_append P [] ys here there = there
  all_append P (x ∷ xs) ys here there = (here.0, all_append P xs ys here.1 there)

  pub all_left : (P : X → Type 0) (xs ys : List X) → AllByRecursion P (xs ++ ys) → AllByRecursion P xs
  all_left P [] ys all = tt
  all_left P (x ∷ xs) ys all = (all.0, all_left P xs ys all.1)

  pub all_right : (P : X → Type 0) (xs ys : List X) → AllByRecursion P (xs ++ ys) → AllByRecursion P ys
  all_right P [] ys all = all
  all_right P (x ∷ xs) ys all = all_right P xs ys all.1

  pub all_weaker : (P Q : X → Type 0) → ((x : X) → P x → Q x) → (xs : List X) → AllByRecursion P xs → AllByRecursion Q xs
  all_weaker P Q f [] all = tt
  all_weaker P Q f (x ∷ xs) all = (f x all.0, all_weaker P Q f xs all.1)

  pub all_both : (P Q R : X → Type 0) → ((x : X) → P x → Q x → R x) → (xs : List X) → AllByRecursion P xs → AllByRecursion Q xs → AllByRecursion R xs
  all_both P Q R f [] here there = tt
  all_both P Q R f (x ∷ xs) here there = (f x here.0 there.0, all_both P Q R f xs here.1 there.1)

  pub filter_all : (p : X → Bool) → ((x : X) → p x ≡ true) → (xs : List X) → filter p xs ≡ xs
  filter_all p passes [] = refl
  filter_all p passes (x ∷ xs) = ap (λ b. cond b (x ∷ filter p xs) (filter p xs)) (passes x) ∙ ap (λ l. x ∷ l) (filter_all p passes xs)

  pub filter_none : (p : X → Bool) → ((x : X) → p x ≡ false) → (xs : List X) → filter p xs ≡ []
  filter_none p fails [] = refl
  filter_none p fails (x ∷ xs) = ap (λ b. cond b (x ∷ filter p xs) (filter p xs)) (fails x) ∙ filter_none p fails xs

module _ {X Y : Type 0} where
  pub all_from_map : (f : X → Y) (P : Y → Type 0) (xs : List X) → AllByRecursion P (map f xs) → AllByRecursion (λ x. P (f x)) xs
  all_from_map f P [] all = tt
  all_from_map f P (x ∷ xs) all = (all.0, all_from_map f P xs all.1)

  pub all_map : (f : X → Y) (P : Y → Type 0) (xs : List X) → AllByRecursion (λ x. P (f x)) xs → AllByRecursion P (map f xs)
  all_map f P [] all = tt
  all_map f P (x ∷ xs) all = (all.0, all_map f P xs all.1)

  pub all_swap : (R : X → Y → Type 0) (xs : List X) (ys : List Y) → AllByRecursion (λ y. AllByRecursion (λ x. R x y) xs) ys → AllByRecursion (λ x. AllByRecursion (λ y. R x y) ys) xs
  all_swap R [] ys all = tt
  all_swap R (x ∷ xs) ys all =
      (all_weaker _ (λ y. R x y) (λ y h. h.0) ys all, all_swap R xs ys (all_weaker _ (λ y. AllByRecursion (λ z. R z y) xs) (λ y h. h.1) ys all))

pub distinct_append : (xs ys : List ℕ) → IsDistinct nat_eq xs → IsDistinct nat_eq ys → AllByRecursion (λ x. AllByRecursion (λ y. nat_eq x y ≡ false) ys) xs → IsDistinct nat_eq (xs ++ ys)
unfolding IsDistinct
distinct_append [] ys here there apart = there
distinct_append (x ∷ xs) ys here there apart = (all_append (λ y. nat_eq x y ≡ false) xs ys here.0 apart.0, distinct_append xs ys here.1 there apart.1)

pub distinct_left : (xs ys : List ℕ) → IsDistinct nat_eq (xs ++ ys) → IsDistinct nat_eq xs
unfolding IsDistinct
distinct_left [] ys all = tt
distinct_left (x ∷ xs) ys all = (all_left (λ y. nat_eq x y ≡ false) xs ys all.0, distinct_left xs ys all.1)
