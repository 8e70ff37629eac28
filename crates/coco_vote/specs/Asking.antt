-- What a power is asked for while nodes vote.
use Rattle.std.specs.Prelude.{◌≡◌, ℕ, ◌<◌, ◌≤◌, Bool, true, false}
use Rattle.coco_vote.specs.declared.step.Step.{Step}
use Rattle.coco_vote.specs.declared.step.Step.TheVariants.{Voted, Restarted, Stopped}
use Rattle.coco_vote.specs.Steps.{has_stopped, is_early}
use Rattle.coco_power.specs.declared.power.Power.{Ghosts as PowerGhosts}

-- Later in the same epoch: no count falls, and what was asked for stays so.
pub record IsLater {P : Type 0} (powers : PowerGhosts P) (old new : P) : Type 0 where
  pub seen_rises : powers.stops_seen old ≤ powers.stops_seen new
  pub early_rises : powers.early_stops old ≤ powers.early_stops new
  pub stopped_rise : (n : ℕ) → n < 8 → powers.stopped old n ≤ powers.stopped new n
  pub begun_stays : powers.begun new ≡ powers.begun old
  pub asked_stays : (n p : ℕ) → n < 8 → p ≤ 6 → powers.asked old n p ≡ true → powers.asked new n p ≡ true

-- a count rises where this is true, and stays otherwise
abbrev pub RisesIf : Bool → ℕ → ℕ → Type 0
RisesIf true old new = old < new
RisesIf false old new = new ≡ old

-- the points that a node is asked for in a step: before its entry, before its vote, and behind it, up to the one at which it stops
abbrev pub AreAsked : Step → (ℕ → Bool) → Type 0
AreAsked Stopped asked = asked 3 ≡ true
AreAsked (Restarted false) asked = (asked 3 ≡ true) × (asked 4 ≡ true)
AreAsked (Restarted true) asked = (asked 3 ≡ true) × (asked 4 ≡ true) × (asked 5 ≡ true)
AreAsked Voted asked = (asked 3 ≡ true) × (asked 4 ≡ true) × (asked 5 ≡ true)

-- the stops that are told in a step
pub record TellsStops (step : Step) (seen early seen_new early_new : ℕ) : Type 0 where
  pub stops : RisesIf (has_stopped step) seen seen_new
  pub early_ones : RisesIf (is_early step) early early_new
