-- Pairs of node and point as places of one list.
use Rattle.std.proofs.Common.{◌≡◌, ℕ, ◌+◌, ◌*◌, ◌<◌, ◌≤◌, Bool, true, false, cond, not, ◌==◌, ◌&&◌, ◌||◌, List, length, replicate, get_or, refl, sym, ap, ◌∙◌, arith, inl, inr}
use Rattle.std.proofs.Math.ListN.{set}
use Rattle.std.proofs.lemmas.List.{get_or-set_other, get_or-replicate}
use Rattle.std.proofs.lemmas.Grind.{get_or-set_at}
use Rattle.std.proofs.lemmas.Bool.{cases_eq, eq-eqb, ne_eqb}

apart_pairs : (n p node point : ℕ) → p ≤ 6 → point ≤ 6 → (n * 7 + p ≡ node * 7 + point → ⊥) → ((n == node) && (p == point)) ≡ false
apart_pairs n p node point a b apart = elim (cases_eq n node) [
  | inl e ↦ ap (λ x. x && (p == point)) (eq-eqb n node e) ∙ ne_eqb p point (λ f. apart (omega arith))
  | inr ne ↦ ap (λ x. x && (p == point)) (ne_eqb n node ne)
]

same_pairs : (n p node point : ℕ) → p ≤ 6 → point ≤ 6 → n * 7 + p ≡ node * 7 + point → ((n == node) && (p == point)) ≡ true
same_pairs n p node point a b e = ap (λ x. x && (p == point)) (eq-eqb n node (omega arith)) ∙ eq-eqb p point (omega arith)

before : (b : Bool) (xs : List Bool) (i : ℕ) → i < 56 → get_or (cond b (replicate 56 false) xs) i false ≡ (not b && get_or xs i false)
before true xs i h = get_or-replicate 56 i false false h
before false xs i h = refl

pub asked_set : (xs ys : List Bool) (b : Bool) (node point n p : ℕ) → node < 8 → point ≤ 6 → n < 8 → p ≤ 6 → length ys ≡ 56 → ys ≡ cond b (replicate 56 false) xs
    → get_or (set ys (node * 7 + point) true) (n * 7 + p) false ≡ (((n == node) && (p == point)) || (not b && get_or xs (n * 7 + p) false))
asked_set xs ys b node point n p hn hp kn kp len is = elim (cases_eq (n * 7 + p) (node * 7 + point)) [
  | inl e ↦ get_or-set_at ys (node * 7 + point) (n * 7 + p) true false e (omega arith) ∙ sym (ap (λ t. t || (not b && get_or xs (n * 7 + p) false)) (same_pairs n p node point kp hp e))
  | inr ne ↦ get_or-set_other ys (node * 7 + point) (n * 7 + p) true false ne ∙ ap (λ zs. get_or zs (n * 7 + p) false) is ∙ before b xs (n * 7 + p) (omega arith)
      ∙ sym (ap (λ t. t || (not b && get_or xs (n * 7 + p) false)) (apart_pairs n p node point kp hp ne))
]
