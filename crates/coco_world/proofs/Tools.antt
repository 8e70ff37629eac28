-- Tests, lists of epochs, values at places.
use Rattle.std.proofs.Common.{◌≡◌, ◌⊎◌, inl, inr, ℕ, zero, suc, ◌+◌, ◌<◌, ◌≤◌, max, Bool, true, false, eqb, ltb, List, [], ◌∷◌, ◌++◌, length, get_or, refl, sym, ap, subst, ◌∙◌, arith}
use Rattle.std.specs.Prelude.{◌&&◌, ◌||◌, if◌then◌else◌, slice_set, replicate, Option, Some, None}
use Rattle.std.specs.List.{AllByRecursion, list_all}
use Rattle.std.proofs.lemmas.Bool.{eqb-true, eqb-false, eq-eqb, ne_eqb, and_parts, cases_lt, ltb-true, or_right, or_from}
use Rattle.coco_node.specs.Node.{greatest}
use Rattle.coco_chief.specs.Chief.{has}
use Rattle.coco_world.specs.World.{Among, put}

pub by_test : {X : Type 0} (P : X → Type 0) (b : Bool) (x y : X) → (b ≡ true → P x) → (b ≡ false → P y) → P (if b then x else y)
by_test P true x y t f = t refl
by_test P false x y t f = f refl

pub or_cases : (a b : Bool) → (a || b) ≡ true → (a ≡ true) ⊎ (b ≡ true)
or_cases true b e = inl refl
or_cases false b e = inr e

pub true_or_false : (b : Bool) → (b ≡ true) ⊎ (b ≡ false)
true_or_false true = inl refl
true_or_false false = inr refl

pub not_both : (b : Bool) → b ≡ true → b ≡ false → ⊥
not_both true t f = cc
not_both false t f = cc

-- ---- epochs of a list

pub has-new : (xs : List ℕ) (e : ℕ) → has (e ∷ xs) e ≡ true
has-new xs e = rw (eq-eqb e e refl) refl

pub has-more : (xs : List ℕ) (e x : ℕ) → has xs x ≡ true → has (e ∷ xs) x ≡ true
has-more xs e x h = or_right (eqb e x) (has xs x) h

pub has-other : (xs : List ℕ) (e x : ℕ) → (e ≡ x → ⊥) → has xs x ≡ false → has (e ∷ xs) x ≡ false
has-other xs e x ne h = or_from (eqb e x) (has xs x) (ne_eqb e x ne) h

pub has-cases : (xs : List ℕ) (e x : ℕ) → has (e ∷ xs) x ≡ true → (e ≡ x) ⊎ (has xs x ≡ true)
has-cases xs e x h = elim (or_cases (eqb e x) (has xs x) h) [ inl t ↦ inl (eqb-true e x t) | inr t ↦ inr t ]

pub has-greatest : (xs : List ℕ) → 0 < greatest xs → has xs (greatest xs) ≡ true
has-greatest [] h = absurd (omega arith)
has-greatest (x ∷ xs) h =
    elim (cases_lt x (greatest xs)) [
      | inl lt ↦ (let same : max x (greatest xs) ≡ greatest xs = omega arith in subst (λ (k : ℕ). has (x ∷ xs) k ≡ true) (sym same) (has-more xs x (greatest xs) (has-greatest xs (omega arith))))
      | inr le ↦ (let same : max x (greatest xs) ≡ x = omega arith in subst (λ (k : ℕ). has (x ∷ xs) k ≡ true) (sym same) (has-new xs x))
    ]

pub has-le : (xs : List ℕ) (e : ℕ) → has xs e ≡ true → e ≤ greatest xs
has-le [] e h = absurd (not_both false h refl)
has-le (x ∷ xs) e h = elim (has-cases xs x e h) [ inl same ↦ omega (arith, same) | inr more ↦ omega (arith, has-le xs e more) ]

-- ---- values at places

pub put_both : {X Y : Type 0} (P : ℕ → X → Y → Type 0) (f : ℕ → X) (g : ℕ → Y) (n : ℕ) (x : X) (y : Y) → ((k : ℕ) → P k (f k) (g k)) → P n x y → (k : ℕ) → P k (put f n x k) (put g n y k)
put_both P f g n x y others here k = at_test (eqb k n) (λ t. subst (λ (m : ℕ). P m x y) (sym (eqb-true k n t)) here)
  where
    at_test : (b : Bool) → (b ≡ true → P k x y) → P k (if b then x else f k) (if b then y else g k)
    at_test true t = t refl
    at_test false t = others k

pub put_one : {X : Type 0} (P : ℕ → X → Type 0) (f : ℕ → X) (n : ℕ) (x : X) → ((k : ℕ) → P k (f k)) → P n x → (k : ℕ) → P k (put f n x k)
put_one P f n x others here k = by_test (P k) (eqb k n) x (f k) (λ t. subst (λ (m : ℕ). P m x) (sym (eqb-true k n t)) here) (λ _. others k)

-- ---- items of lists

pub Among-append : {X : Type 0} (xs ys : List X) (x : X) → Among (xs ++ ys) x → Among xs x ⊎ Among ys x
Among-append [] ys x h = inr h
Among-append (y ∷ xs) ys x (inl e) = inl (inl e)
Among-append (y ∷ xs) ys x (inr h) = elim (Among-append xs ys x h) [ inl a ↦ inl (inr a) | inr b ↦ inr b ]

pub Among-right : {X : Type 0} (xs ys : List X) (x : X) → Among ys x → Among (xs ++ ys) x
Among-right [] ys x h = h
Among-right (y ∷ xs) ys x h = inr (Among-right xs ys x h)

pub All-among : {X : Type 0} (P : X → Type 0) (xs : List X) (x : X) → AllByRecursion P xs → Among xs x → P x
All-among P [] x all h = absurd h
All-among P (y ∷ ys) x all (inl e) = subst P e all.0
All-among P (y ∷ ys) x all (inr h) = All-among P ys x all.1 h
