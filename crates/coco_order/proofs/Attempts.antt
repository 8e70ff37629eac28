-- Attempts told apart, and lists by attempt.
use Rattle.std.proofs.Common.{◌≡◌, ◌⊎◌, inl, inr, ℕ, Bool, true, false, cond, eqb, List, [], ◌∷◌, ◌++◌, Option, None, Some, refl, sym, ap, ◌∙◌, subst}
use Rattle.std.specs.Prelude.{◌&&◌, ◌==◌}
use Rattle.std.proofs.lemmas.Bool.{eqb-true, eq-eqb, and_from}
use Rattle.coco_types.specs.declared.call.AttemptId.{AttemptId}
use Rattle.coco_order.specs.OneKey.{is_attempt, Among}

pub and_both : (a b : Bool) → (a && b) ≡ true → (a ≡ true) × (b ≡ true)
and_both true b e = (refl, e)
and_both false b e = let h : false ≡ true = e in cc

pub not_both : (b : Bool) → b ≡ true → b ≡ false → ⊥
not_both true t f = cc
not_both false t f = cc

pub one_attempt : (a b : AttemptId) → is_attempt a b ≡ true → a ≡ b
one_attempt a b h =
    let parts = and_both (eqb a.worker b.worker) (eqb a.number b.number) h in
    let w : a.worker ≡ b.worker = eqb-true a.worker b.worker parts.0 in
    let n : a.number ≡ b.number = eqb-true a.number b.number parts.1 in
    λ i. record { worker = w i; number = n i }

pub attempt_itself : (a : AttemptId) → is_attempt a a ≡ true
attempt_itself a = and_from (eqb a.worker a.worker) (eqb a.number a.number) (eq-eqb a.worker a.worker refl) (eq-eqb a.number a.number refl)

pub by_bool : (P : Bool → Type 0) (b : Bool) → (b ≡ true → P true) → (b ≡ false → P false) → P b
by_bool P true t f = t refl
by_bool P false t f = f refl

pub none_some : {X : Type 0} {x : X} → None ≡ Some x → ⊥
none_some h = cc

pub same_some : {X : Type 0} {x y : X} → Some x ≡ Some y → x ≡ y
same_some h = cc

pub Among-append : {X : Type 0} (xs ys : List X) (x : X) → Among (xs ++ ys) x → Among xs x ⊎ Among ys x
Among-append [] ys x h = inr h
Among-append (y ∷ xs) ys x (inl e) = inl (inl e)
Among-append (y ∷ xs) ys x (inr h) = elim (Among-append xs ys x h) [ inl a ↦ inl (inr a) | inr b ↦ inr b ]

pub Among-right : {X : Type 0} (xs ys : List X) (x : X) → Among ys x → Among (xs ++ ys) x
Among-right [] ys x h = h
Among-right (y ∷ xs) ys x h = inr (Among-right xs ys x h)

pub Among-left : {X : Type 0} (xs ys : List X) (x : X) → Among xs x → Among (xs ++ ys) x
Among-left [] ys x h = absurd h
Among-left (y ∷ xs) ys x (inl e) = inl e
Among-left (y ∷ xs) ys x (inr h) = inr (Among-left xs ys x h)
