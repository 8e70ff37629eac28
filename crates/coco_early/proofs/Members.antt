-- Members of lists: where they come from, and where they stand.
use Rattle.std.proofs.Common.{◌≡◌, ◌⊎◌, inl, inr, ℕ, zero, suc, ◌<◌, Bool, true, false, cond, List, [], ◌∷◌, ◌++◌, map, length, slice_index_or, Option, None, Some, refl, sym, ap, ◌∙◌, subst, arith}
use Rattle.std.specs.List.{AllByRecursion, Contains, cons_option, filter, filter_map, flat_map}
use Rattle.std.specs.List.Sorted.{IsPermutation}
use Rattle.std.proofs.lemmas.List.Sorted.{Contains-permutation}
use Rattle.coco_order.specs.Execution.{concat}
use Rattle.coco_order.specs.OneKey.{Among}

pub by_bool : (P : Bool → Type 0) (b : Bool) → (b ≡ true → P true) → (b ≡ false → P false) → P b
by_bool P true t f = t refl
by_bool P false t f = f refl

pub two_sides : true ≡ false → ⊥
two_sides h = cc

pub none_some : {X : Type 0} {x : X} → None ≡ Some x → ⊥
none_some h = cc

pub same_some : {X : Type 0} {x y : X} → Some x ≡ Some y → x ≡ y
same_some h = cc

module _ {X : Type 0} where
  pub of_all : (P : X → Type 0) (xs : List X) (x : X) → AllByRecursion P xs → Among xs x → P x
  of_all P [] x all h = absurd h
  of_all P (y ∷ xs) x all (inl same) = subst P same all.0
  of_all P (y ∷ xs) x all (inr more) = of_all P xs x all.1 more

  pub left : (xs ys : List X) (x : X) → Among xs x → Among (xs ++ ys) x
  left [] ys x h = absurd h
  left (y ∷ xs) ys x (inl same) = inl same
  left (y ∷ xs) ys x (inr more) = inr (left xs ys x more)

  pub right : (xs ys : List X) (x : X) → Among ys x → Among (xs ++ ys) x
  right [] ys x h = h
  right (y ∷ xs) ys x h = inr (right xs ys x h)

  pub either : (xs ys : List X) (x : X) → Among (xs ++ ys) x → Among xs x ⊎ Among ys x
  either [] ys x h = inr h
  either (y ∷ xs) ys x (inl same) = inl (inl same)
  either (y ∷ xs) ys x (inr more) = elim (either xs ys x more) [ inl here ↦ inl (inr here) | inr there ↦ inr there ]

  pub to_contains : (xs : List X) (x : X) → Among xs x → Contains xs x
  to_contains [] x h = absurd h
  to_contains (y ∷ xs) x (inl same) = (0, omega arith, same)
  to_contains (y ∷ xs) x (inr more) = let rest = to_contains xs x more in (suc rest.0, omega (arith, rest.1), rest.2)

  pub from_contains : (xs : List X) (x : X) → Contains xs x → Among xs x
  from_contains [] x h = absurd (omega (arith, h.1))
  from_contains (y ∷ xs) x (zero, lt, same) = inl same
  from_contains (y ∷ xs) x (suc n, lt, same) = inr (from_contains xs x (n, omega arith, same))

  pub moved : (xs ys : List X) → IsPermutation xs ys → (x : X) → Among xs x → Among ys x
  moved xs ys perm x h = from_contains ys x (Contains-permutation xs ys x perm (to_contains xs x h))

  pub filtered : (p : X → Bool) (xs : List X) (x : X) → Among xs x → p x ≡ true → Among (filter p xs) x
  filtered p [] x h is = absurd h
  filtered p (y ∷ xs) x (inl same) is = subst (λ (b : Bool). Among (cond b (y ∷ filter p xs) (filter p xs)) x) (sym (ap p same ∙ is)) (inl same)
  filtered p (y ∷ xs) x (inr more) is = by_bool (λ b. Among (cond b (y ∷ filter p xs) (filter p xs)) x) (p y) (λ _. inr (filtered p xs x more is)) (λ _. filtered p xs x more is)

  pub of_filter : (p : X → Bool) (xs : List X) (x : X) → Among (filter p xs) x → Among xs x × (p x ≡ true)
  of_filter p [] x h = absurd h
  of_filter p (y ∷ xs) x h =
      by_bool (λ b. p y ≡ b → Among (cond b (y ∷ filter p xs) (filter p xs)) x → Among (y ∷ xs) x × (p x ≡ true)) (p y)
      (λ _ t g. elim g [ inl same ↦ (inl same, ap p (sym same) ∙ t) | inr more ↦ (let rest = of_filter p xs x more in (inr rest.0, rest.1)) ])
      (λ _ f g. (let rest = of_filter p xs x g in (inr rest.0, rest.1))) refl h

  -- a member with what stands before it and behind it
  pub record Standing (xs : List X) (x : X) : Type 0 where
    pub before : List X
    pub behind : List X
    pub split : xs ≡ before ++ x ∷ behind

  pub standing : (xs : List X) (x : X) → Among xs x → Standing xs x
  standing [] x h = absurd h
  standing (y ∷ xs) x (inl same) = record { before = []; behind = xs; split = ap (λ (z : X). z ∷ xs) same }
  standing (y ∷ xs) x (inr more) = let rest : Standing xs x = standing xs x more in record { before = y ∷ rest.before; behind = rest.behind; split = ap (λ (zs : List X). y ∷ zs) rest.split }

  pub in_one : (xss : List (List X)) (x : X) → Among (concat xss) x → (n : ℕ) × (n < length xss) × Among (slice_index_or xss n []) x
  in_one [] x h = absurd h
  in_one (xs ∷ xss) x h = elim (either xs (concat xss) x h) [
    | inl here ↦ (0, omega arith, here)
    | inr more ↦ (let rest = in_one xss x more in (suc rest.0, omega (arith, rest.1), rest.2))
  ]

  pub in_all : (xss : List (List X)) (n : ℕ) (x : X) → n < length xss → Among (slice_index_or xss n []) x → Among (concat xss) x
  in_all [] n x lt h = absurd (omega (arith, lt))
  in_all (xs ∷ xss) zero x lt h = left xs (concat xss) x h
  in_all (xs ∷ xss) (suc n) x lt h = right xs (concat xss) x (in_all xss n x (omega (arith, lt)) h)

module _ {X Y : Type 0} (f : X → Y) where
  pub mapped : (xs : List X) (x : X) → Among xs x → Among (map f xs) (f x)
  mapped [] x h = absurd h
  mapped (y ∷ xs) x (inl same) = inl (ap f same)
  mapped (y ∷ xs) x (inr more) = inr (mapped xs x more)

  pub of_map : (xs : List X) (y : Y) → Among (map f xs) y → (x : X) × Among xs x × (f x ≡ y)
  of_map [] y h = absurd h
  of_map (x ∷ xs) y (inl same) = (x, inl refl, same)
  of_map (x ∷ xs) y (inr more) = let rest = of_map xs y more in (rest.0, inr rest.1, rest.2)

module _ {X Y : Type 0} (f : X → Option Y) where
  pub kept : (xs : List X) (x : X) (y : Y) → Among xs x → f x ≡ Some y → Among (filter_map f xs) y
  kept [] x y h is = absurd h
  kept (z ∷ xs) x y (inl same) is = subst (λ (o : Option Y). Among (cons_option o (filter_map f xs)) y) (sym (ap f same ∙ is)) (inl refl)
  kept (z ∷ xs) x y (inr more) is = behind (f z) (kept xs x y more is)
    where
      behind : (o : Option Y) → Among (filter_map f xs) y → Among (cons_option o (filter_map f xs)) y
      behind None rest = rest
      behind (Some w) rest = inr rest

  pub of_kept : (xs : List X) (y : Y) → Among (filter_map f xs) y → (x : X) × Among xs x × (f x ≡ Some y)
  of_kept [] y h = absurd h
  of_kept (x ∷ xs) y h = from (λ g. of_kept xs y g) (f x) refl h
    where
      behind : (z : X) × Among xs z × (f z ≡ Some y) → (z : X) × Among (x ∷ xs) z × (f z ≡ Some y)
      behind rest = (rest.0, inr rest.1, rest.2)

      from : (Among (filter_map f xs) y → (z : X) × Among xs z × (f z ≡ Some y)) → (o : Option Y) → f x ≡ o → Among (cons_option o (filter_map f xs)) y → (z : X) × Among (x ∷ xs) z × (f z ≡ Some y)
      from rest None is g = behind (rest g)
      from rest (Some w) is (inl same) = (x, inl refl, is ∙ ap Some same)
      from rest (Some w) is (inr more) = behind (rest more)

module _ {X Y : Type 0} (g : X → List Y) where
  pub in_flat : (xs : List X) (x : X) (y : Y) → Among xs x → Among (g x) y → Among (flat_map g xs) y
  in_flat [] x y h at = absurd h
  in_flat (z ∷ xs) x y (inl same) at = left (g z) (flat_map g xs) y (subst (λ (w : X). Among (g w) y) (sym same) at)
  in_flat (z ∷ xs) x y (inr more) at = right (g z) (flat_map g xs) y (in_flat xs x y more at)

  pub of_flat : (xs : List X) (y : Y) → Among (flat_map g xs) y → (x : X) × Among xs x × Among (g x) y
  of_flat [] y h = absurd h
  of_flat (z ∷ xs) y h = elim (either (g z) (flat_map g xs) y h) [
    | inl here ↦ (z, inl refl, here)
    | inr more ↦ (let rest = of_flat xs y more in (rest.0, inr rest.1, rest.2))
  ]
