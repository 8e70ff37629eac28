-- Lists of views of which one changed, sums over them, and beginnings of one list.
use Rattle.std.proofs.Common.{◌≡◌, ◌≢◌, ℕ, zero, suc, ◌+◌, ◌≤◌, List, [], ◌∷◌, ◌++◌, length, set, Some, cond, refl, sym, ap, ◌∙◌, subst, ⊎_elim, arith, append_assoc, length-append, eqb, ltb}
use Rattle.std.specs.Prelude.{slice_get, sum_by}
use mathlib.Core.Option.{some, some-injective, some-ne-none}
use mathlib.Core.List.{IsPrefix}
use lib.ListN.{get_elem?}
use Rattle.std.proofs.lemmas.List.Sums.{sum_by-cons, sum_by_push, sum_by-append}
use Rattle.std.proofs.lemmas.Bool.{cond_both}
use Rattle.std.proofs.lemmas.Bool.Decides.{nat_tests}
use Rattle.atomic_table.proofs.Lists.{at_set}
use Rattle.coco_seen.specs.Rules.{how_often, once_below, numbers, as_one}
use Rattle.coco_seen.specs.Steps.{head_of, tail_of, longer}

module _ {A : Type 0} where
  pub each_set : (F : A → Type 0) (xs : List A) (i : ℕ) (y : A) → F y → ((j : ℕ) (x : A) → j ≢ i → get_elem? xs j ≡ some x → F x) → (j : ℕ) (x : A) → get_elem? (set xs i y) j ≡ some x → F x
  each_set F xs i y mine others j x e = ⊎_elim (λ (t : (j ≡ i) × (y ≡ x)). subst F t.1 mine) (λ (t : (j ≢ i) × (get_elem? xs j ≡ some x)). others j x t.0 t.1) (at_set xs i j y x e)

  pub sum_set : (f : A → ℕ) (xs : List A) (i : ℕ) (x y : A) → get_elem? xs i ≡ some x → sum_by f (set xs i y) + f x ≡ sum_by f xs + f y
  sum_set f [] i x y e = absurd (some-ne-none x (sym e))
  sum_set f (a ∷ l) zero x y e = omega (arith, sum_by-cons f y l, sum_by-cons f a l, ap f (some-injective a x e))
  sum_set f (a ∷ l) (suc i) x y e = omega (arith, sum_by-cons f a (set l i y), sum_by-cons f a l, sum_set f l i x y e)

  pub sum_same : (f : A → ℕ) (xs : List A) (i : ℕ) (x y : A) → get_elem? xs i ≡ some x → f x ≡ f y → sum_by f (set xs i y) ≡ sum_by f xs
  sum_same f xs i x y e same = omega (arith, sum_set f xs i x y e)

  pub at_most : (f : A → ℕ) (xs : List A) (i : ℕ) (x : A) → get_elem? xs i ≡ some x → f x ≤ sum_by f xs
  at_most f [] i x e = absurd (some-ne-none x (sym e))
  at_most f (a ∷ l) zero x e = omega (arith, sum_by-cons f a l, ap f (some-injective a x e))
  at_most f (a ∷ l) (suc i) x e = omega (arith, sum_by-cons f a l, at_most f l i x e)

  pub two_at_most : (f : A → ℕ) (xs : List A) (i j : ℕ) (x y : A) → get_elem? xs i ≡ some x → get_elem? xs j ≡ some y → j ≢ i → f x + f y ≤ sum_by f xs
  two_at_most f [] i j x y e d apart = absurd (some-ne-none x (sym e))
  two_at_most f (a ∷ l) zero zero x y e d apart = absurd (apart refl)
  two_at_most f (a ∷ l) zero (suc j) x y e d apart = omega (arith, sum_by-cons f a l, ap f (some-injective a x e), at_most f l j y d)
  two_at_most f (a ∷ l) (suc i) zero x y e d apart = omega (arith, sum_by-cons f a l, ap f (some-injective a y d), at_most f l i x e)
  two_at_most f (a ∷ l) (suc i) (suc j) x y e d apart = omega (arith, sum_by-cons f a l, two_at_most f l i j x y e d (λ s. apart (ap suc s)))

  pub none_of : (f : A → ℕ) (xs : List A) → ((j : ℕ) (y : A) → get_elem? xs j ≡ some y → f y ≡ 0) → sum_by f xs ≡ 0
  none_of f [] all = refl
  none_of f (a ∷ l) all = omega (arith, sum_by-cons f a l, all 0 a refl, none_of f l (λ j y e. all (suc j) y e))

  pub only_one : (f : A → ℕ) (xs : List A) (i : ℕ) (x : A) → get_elem? xs i ≡ some x → ((j : ℕ) (y : A) → j ≢ i → get_elem? xs j ≡ some y → f y ≡ 0) → sum_by f xs ≡ f x
  only_one f [] i x e others = absurd (some-ne-none x (sym e))
  only_one f (a ∷ l) zero x e others = omega (arith, sum_by-cons f a l, ap f (some-injective a x e), none_of f l (λ j y d. others (suc j) y (λ s. omega arith) d))
  only_one f (a ∷ l) (suc i) x e others = omega (arith, sum_by-cons f a l, others 0 a (λ s. omega arith) refl, only_one f l i x e (λ j y apart d. others (suc j) y (λ s. apart (omega arith)) d))

  -- each list begins with itself
  pub prefix_self : (xs : List A) → IsPrefix xs xs
  prefix_self [] = ([], refl)
  prefix_self (x ∷ xs) = (let r = prefix_self xs in r.0, ap (λ ys. x ∷ ys) (prefix_self xs).1)

  pub prefix_trans : (xs ys zs : List A) → IsPrefix xs ys → IsPrefix ys zs → IsPrefix xs zs
  prefix_trans xs ys zs p q = (p.0 ++ q.0, sym (append_assoc xs p.0 q.0) ∙ (ap (λ w. w ++ q.0) p.1 ∙ q.1))

  pub prefix_length : (xs ys : List A) → IsPrefix xs ys → length xs ≤ length ys
  prefix_length xs ys p = omega (arith, sym (ap length p.1) ∙ length-append xs p.0)

  pub get_front : (xs ys : List A) (k : ℕ) (x : A) → slice_get xs k ≡ Some x → slice_get (xs ++ ys) k ≡ Some x
  get_front [] ys k x e = absurd cc
  get_front (a ∷ l) ys zero x e = e
  get_front (a ∷ l) ys (suc k) x e = get_front l ys k x e

  pub get_last : (xs : List A) (x : A) (n : ℕ) → n ≡ length xs → slice_get (xs ++ x ∷ []) n ≡ Some x
  get_last [] x zero e = refl
  get_last [] x (suc n) e = absurd (omega arith)
  get_last (a ∷ l) x zero e = absurd (omega arith)
  get_last (a ∷ l) x (suc n) e = get_last l x n (omega arith)

  pub longer_begins : (xs ys log : List A) → IsPrefix xs log → IsPrefix ys log → IsPrefix (longer xs ys) log
  longer_begins xs ys log p q = cond_both (ltb (length xs) (length ys)) ys xs (λ zs. IsPrefix zs log) (λ _. q) (λ _. p)

  pub empty_if : (xs : List A) → length xs ≡ 0 → xs ≡ []
  empty_if [] e = refl
  empty_if (x ∷ xs) e = absurd (omega arith)

pub often_push : (x : ℕ) (xs : List ℕ) (y : ℕ) → how_often x (xs ++ y ∷ []) ≡ how_often x xs + as_one (eqb y x)
often_push x xs y = sum_by_push (λ z. cond (eqb z x) 1 0) xs y

pub often_append : (x : ℕ) (xs ys : List ℕ) → how_often x (xs ++ ys) ≡ how_often x xs + how_often x ys
often_append x xs ys = sum_by-append (λ z. cond (eqb z x) 1 0) xs ys

pub often_split : (x : ℕ) (xs : List ℕ) → how_often x xs ≡ how_often x (tail_of xs) + how_often x (head_of xs)
often_split x [] = refl
often_split x (y ∷ ys) = omega (arith, sum_by-cons (λ z. cond (eqb z x) 1 0) y ys, sum_by-cons (λ z. cond (eqb z x) 1 0) y [])

pub length_split : (xs : List ℕ) → length xs ≡ length (tail_of xs) + length (head_of xs)
length_split [] = refl
length_split (y ∷ ys) = omega arith

pub once_more : (x n : ℕ) → once_below x (n + 1) ≡ once_below x n + as_one (eqb n x)
once_more x n = grind (arith, nat_tests)

-- how often a number stands among the n numbers from k on
pub often_numbers : (x k n : ℕ) → how_often x (numbers k n) + once_below x k ≡ once_below x (k + n)
often_numbers x k zero = grind (arith, nat_tests)
often_numbers x k (suc n) =
    let same : once_below x (k + suc n) ≡ once_below x (suc k + n) = ap (once_below x) (omega arith) in
    let next : once_below x (suc k) ≡ once_below x (k + 1) = ap (once_below x) (omega arith) in
    omega (arith, sum_by-cons (λ z. cond (eqb z x) 1 0) k (numbers (suc k) n), often_numbers x (suc k) n, once_more x k, same, next)

pub none_below : (x : ℕ) → once_below x 0 ≡ 0
none_below x = grind (arith, nat_tests)

-- the first n numbers stand once each among themselves
pub often_first : (x n : ℕ) → how_often x (numbers 0 n) ≡ once_below x n
often_first x n = let same : once_below x (0 + n) ≡ once_below x n = ap (once_below x) (omega arith) in omega (arith, often_numbers x 0 n, none_below x, same)

pub length_numbers : (k n : ℕ) → length (numbers k n) ≡ n
length_numbers k zero = refl
length_numbers k (suc n) = ap suc (length_numbers (suc k) n)
