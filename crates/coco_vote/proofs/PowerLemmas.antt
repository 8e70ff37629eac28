-- A power that is asked for points of an epoch, one behind another.
use Rattle.std.proofs.Common.{◌≡◌, inl, inr, ℕ, ◌+◌, ◌-◌, ◌^◌, ◌<◌, ◌≤◌, min, Bool, true, false, eqb, refl, ap, ◌∙◌, arith}
use Rattle.std.specs.Prelude.{◌&&◌, not, nat_le, ◌==◌, if◌then◌else◌}
use Rattle.std.proofs.lemmas.Bool.{cases_lt, eq-eqb, ne_eqb, or_left, and_right, or_right}
use Rattle.coco_power.specs.Counting.{asked_after, begins, begun_after, RisesWhere}
use Rattle.coco_vote.specs.Asking.{IsLater, RisesIf}
use Rattle.coco_power.specs.declared.power.Power.{Ghosts as PowerGhosts}

never : {X : Type 0} → false ≡ true → X
never h = absurd cc

pub rises_if : (test : Bool) (old new : ℕ) → RisesWhere test old new → RisesIf test old new
rises_if true old new rises = rises.1.1 refl
rises_if false old new rises = elim (cases_lt old new) [ inl less ↦ never (rises.1.0 less) | inr most ↦ omega (arith, rises.0) ]

-- no epoch begins behind the first point
begins_none : (node point : ℕ) → 1 < point → begins node point ≡ false
begins_none node point behind = and_right (eqb node 0) (eqb point 1) (ne_eqb point 1 (λ same. omega (arith, same, behind)))

module _ {P : Type 0} (powers : PowerGhosts P) where
  pub later_same : (p : P) → IsLater powers p p
  later_same p = record { seen_rises = omega arith; early_rises = omega arith; stopped_rise = λ n lt. omega arith; begun_stays = refl; asked_stays = λ n p lt le was. was }

  pub later_then : (p q r : P) → IsLater powers p q → IsLater powers q r → IsLater powers p r
  later_then p q r one two = record {
    seen_rises = omega (arith, one.seen_rises, two.seen_rises);
    early_rises = omega (arith, one.early_rises, two.early_rises);
    stopped_rise = λ n lt. omega (arith, one.stopped_rise n lt, two.stopped_rise n lt);
    begun_stays = two.begun_stays ∙ one.begun_stays;
    asked_stays = λ n k lt le was. two.asked_stays n k lt le (one.asked_stays n k lt le was);
  }

  -- a question
  module _ (old new : P) (answer : Bool) (node point : ℕ) (behind : 1 < point)
      (seen_rises : RisesWhere answer (powers.stops_seen old) (powers.stops_seen new))
      (early_rises : RisesWhere (answer && nat_le point 3) (powers.early_stops old) (powers.early_stops new))
      (stopped_rise : (n : ℕ) → n < 8 → RisesWhere (answer && (n == node)) (powers.stopped old n) (powers.stopped new n))
      (begun_is : powers.begun new ≡ begun_after (powers.begun old) node point)
      (asked_is : (n p : ℕ) → n < 8 → p ≤ 6 → powers.asked new n p ≡ asked_after (powers.asked old) node point n p) where
    pub later_asked : IsLater powers old new
    later_asked = record {
      seen_rises = seen_rises.0;
      early_rises = early_rises.0;
      stopped_rise = λ n lt. (stopped_rise n lt).0;
      begun_stays = begun_is ∙ ap (λ (b : Bool). if b then min (powers.begun old + 1) (2 ^ 64 - 1) else powers.begun old) (begins_none node point behind);
      asked_stays = λ n p lt le was. asked_is n p lt le ∙ or_right ((n == node) && (p == point)) (not (begins node point) && powers.asked old n p)
          (ap (λ (b : Bool). not b && powers.asked old n p) (begins_none node point behind) ∙ was);
    }

    pub asked_here : node < 8 → point ≤ 6 → powers.asked new node point ≡ true
    asked_here eight six = asked_is node point eight six ∙ or_left ((node == node) && (point == point)) (not (begins node point) && powers.asked old node point)
        (ap (λ (b : Bool). b && (point == point)) (eq-eqb node node refl) ∙ eq-eqb point point refl)

    -- its own count rises with the answer
    pub stopped_here : node < 8 → answer ≡ true → powers.stopped old node < powers.stopped new node
    stopped_here eight told = (stopped_rise node eight).1.1 (ap (λ (b : Bool). b && (node == node)) told ∙ eq-eqb node node refl)
