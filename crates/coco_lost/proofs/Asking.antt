-- Questions to a power, node after node.
use Rattle.std.proofs.Common.{◌≡◌, ◌⊎◌, inl, inr, ℕ, ◌+◌, ◌-◌, ◌^◌, ◌<◌, ◌≤◌, min, Bool, true, false, eqb, ltb, refl, sym, ap, subst, ◌∙◌, arith}
use Rattle.std.specs.Prelude.{◌&&◌, ◌||◌, not, if◌then◌else◌}
use Rattle.std.proofs.lemmas.Bool.{and_left, eqb-false, eqb-true, le-ltb, lt-ltb, ltb-false, ltb-true, ne_eqb, or_right}
use Rattle.coco_power.specs.Counting.{asked_after, begins, begun_after}
use Rattle.coco_vote.specs.Asking.{IsLater}
use Rattle.coco_lost.specs.Stopping.{AreAsked, CountsRise}
use Rattle.coco_power.specs.declared.power.Power.{Ghosts as PowerGhosts}

-- the first question, or one more
one_first : (n : ℕ) → eqb n 0 ≡ ltb n 1
one_first n = by (eqb n 0) refl
  where
    by : (b : Bool) → eqb n 0 ≡ b → eqb n 0 ≡ ltb n 1
    by true is = is ∙ sym (lt-ltb n 1 (omega (arith, eqb-true n 0 is)))
    by false is = is ∙ sym (le-ltb n 1 (let other : n ≡ 0 → ⊥ = eqb-false n 0 is in omega (arith, other)))

one_more : (n k : ℕ) → ltb n (k + 1) ≡ (eqb n k || ltb n k)
one_more n k = by (eqb n k) refl (ltb n k) refl
  where
    by : (b : Bool) → eqb n k ≡ b → (d : Bool) → ltb n k ≡ d → ltb n (k + 1) ≡ (b || d)
    by true is d less = lt-ltb n (k + 1) (omega (arith, eqb-true n k is))
    by false is true less = lt-ltb n (k + 1) (omega (arith, ltb-true n k less))
    by false is false less = le-ltb n (k + 1) (let other : n ≡ k → ⊥ = eqb-false n k is in omega (arith, ltb-false n k less, other))

shuffle : (a q l x : Bool) → ((a && q) || ((l && q) || x)) ≡ (((a || l) && q) || x)
shuffle true true l x = refl
shuffle true false true x = refl
shuffle true false false x = refl
shuffle false q l x = refl

-- no epoch begins at a later node
begins_later : (k point : ℕ) → 0 < k → begins k point ≡ false
begins_later k point some = and_left (eqb k 0) (eqb point 1) (ne_eqb k 0 (λ same. omega (arith, same, some)))

-- what is known of the questions behind some: there was none, or each of these nodes was asked
unfoldable pub WasAsked : ℕ → ℕ → ℕ → ℕ → (ℕ → ℕ → Bool) → (ℕ → ℕ → Bool) → Type 0
WasAsked k point begun begun_new asked asked_new =
    ((k ≡ 0) × (begun_new ≡ begun) × ((n p : ℕ) → asked_new n p ≡ asked n p)) ⊎ ((0 < k) × (begun_new ≡ begun_after begun 0 point) × AreAsked k point asked asked_new)

first_step : (point : ℕ) (asked new : ℕ → ℕ → Bool) → ((n p : ℕ) → n < 8 → p ≤ 6 → new n p ≡ asked_after asked 0 point n p) → AreAsked 1 point asked new
first_step point asked new is n p lt le = is n p lt le ∙ ap (λ (b : Bool). (b && eqb p point) || (not (eqb point 1) && asked n p)) (one_first n)

later_step : (k point : ℕ) (asked now new : ℕ → ℕ → Bool) → 0 < k → AreAsked k point asked now → ((n p : ℕ) → n < 8 → p ≤ 6 → new n p ≡ asked_after now k point n p) → AreAsked (k + 1) point asked new
later_step k point asked now new some was is n p lt le =
    is n p lt le
    ∙ ap (λ (b : Bool). (eqb n k && eqb p point) || (not b && now n p)) (begins_later k point some)
    ∙ ap (λ (b : Bool). (eqb n k && eqb p point) || b) (was n p lt le)
    ∙ shuffle (eqb n k) (eqb p point) (ltb n k) (not (eqb point 1) && asked n p)
    ∙ ap (λ (b : Bool). (b && eqb p point) || (not (eqb point 1) && asked n p)) (sym (one_more n k))

module _ (k point begun now_begun new_begun : ℕ) (asked now new : ℕ → ℕ → Bool) (was : WasAsked k point begun now_begun asked now)
    (begun_is : new_begun ≡ begun_after now_begun k point) (is : (n p : ℕ) → n < 8 → p ≤ 6 → new n p ≡ asked_after now k point n p) where
  pub ask_step : (new_begun ≡ begun_after begun 0 point) × AreAsked (k + 1) point asked new
  unfolding WasAsked
  ask_step = elim was [
    | inl none ↦ (
      begun_is ∙ ap (λ (j : ℕ). begun_after now_begun j point) none.0 ∙ ap (λ (b : ℕ). begun_after b 0 point) none.1,
      subst (λ (j : ℕ). AreAsked (j + 1) point asked new) (sym none.0) (first_step point asked new (λ n p lt le. is n p lt le
          ∙ ap (λ (j : ℕ). asked_after now j point n p) none.0 ∙ ap (λ (b : Bool). (eqb n 0 && eqb p point) || (not (begins 0 point) && b)) (none.2 n p))),
    )
    | inr some ↦ (
      begun_is ∙ ap (λ (b : Bool). if b then min (now_begun + 1) (2 ^ 64 - 1) else now_begun) (begins_later k point some.0) ∙ some.1,
      later_step k point asked now new some.0 some.2 is,
    )
  ]

  pub was_step : WasAsked (k + 1) point begun new_begun asked new
  unfolding WasAsked
  was_step = inr (omega arith, ask_step.0, ask_step.1)

pub was_none : (point begun : ℕ) (asked : ℕ → ℕ → Bool) → WasAsked 0 point begun begun asked asked
unfolding WasAsked
was_none point begun asked = inl (refl, refl, λ n p. refl)

pub was_all : (k point begun new_begun : ℕ) (asked new : ℕ → ℕ → Bool) → 0 < k → WasAsked k point begun new_begun asked new → (new_begun ≡ begun_after begun 0 point) × AreAsked k point asked new
unfolding WasAsked
was_all k point begun new_begun asked new some was = elim was [ inl none ↦ absurd (omega (arith, none.0, some)) | inr all ↦ (all.1, all.2) ]

-- behind the first point no epoch begins, and what was asked for stays so
pub later_from : {P : Type 0} (powers : PowerGhosts P) (old new : P) (count point : ℕ) → 1 < point → CountsRise powers.stops_seen powers.early_stops powers.stopped old new
    → powers.begun new ≡ begun_after (powers.begun old) 0 point → AreAsked count point (powers.asked old) (powers.asked new) → IsLater powers old new
later_from powers old new count point behind rise begun_is are =
    let not_first : eqb point 1 ≡ false = ne_eqb point 1 (λ same. omega (arith, same, behind)) in
    record {
      seen_rises = rise.seen_rises;
      early_rises = rise.early_rises;
      stopped_rise = rise.stopped_rise;
      begun_stays = begun_is ∙ ap (λ (b : Bool). if b then min (powers.begun old + 1) (2 ^ 64 - 1) else powers.begun old) not_first;
      asked_stays = λ n p lt le was. are n p lt le ∙ or_right (ltb n count && eqb p point) (not (eqb point 1) && powers.asked old n p) (ap (λ (b : Bool). not b && powers.asked old n p) not_first ∙ was);
    }
