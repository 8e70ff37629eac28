-- Which nodes have lost their tables: where no stop was told, just those that had.
use Rattle.std.proofs.Common.{◌≡◌, ℕ, ◌≤◌, List, Some, inl, inr, refl, ap, subst, ◌∙◌, arith}
use Rattle.std.specs.List.{slice_get}
use Rattle.std.proofs.Math.ListN.{set}
use Rattle.coco_letters.specs.declared.voter.Voter.{Voter}
use Rattle.coco_vote.specs.declared.step.Step.{Step}
use Rattle.coco_vote.specs.declared.step.Step.TheVariants.{Voted, Restarted, Stopped}
use Rattle.coco_vote.specs.Asking.{TellsStops}
use Rattle.coco_vote.specs.Steps.{Marks}
use Rattle.coco_vote.specs.Taking.{StaysWhole, StayWhole}
use Rattle.coco_vote.proofs.VoterLemmas.{at_place}

-- a step
pub whole_step : (step : Step) (seen early seen_new early_new : ℕ) (voter now : Voter) → TellsStops step seen early seen_new early_new → Marks step voter now → StaysWhole seen seen_new voter now
whole_step Voted seen early seen_new early_new voter now told marks same = marks.lost
whole_step (Restarted voted) seen early seen_new early_new voter now told marks same = absurd (omega (arith, told.stops, same))
whole_step Stopped seen early seen_new early_new voter now told marks same = absurd (omega (arith, told.stops, same))

-- one behind another: no count of stops falls
between_same : (a b c : ℕ) → a ≤ b → b ≤ c → c ≡ a → (b ≡ a) × (c ≡ b)
between_same a b c ab bc same = (omega (arith, ab, bc, same), omega (arith, ab, bc, same))

pub whole_then : (a b c : ℕ) (was mid now : Voter) → a ≤ b → b ≤ c → StaysWhole a b was mid → StaysWhole b c mid now → StaysWhole a c was now
whole_then a b c was mid now ab bc one two same = let both = between_same a b c ab bc same in two both.1 ∙ one both.0

pub all_whole_same : (seen : ℕ) (voters : List Voter) → StayWhole seen seen voters voters
all_whole_same seen voters same n now there = (now, there, refl)

pub all_whole_then : (a b c : ℕ) (was mid now : List Voter) → a ≤ b → b ≤ c → StayWhole a b was mid → StayWhole b c mid now → StayWhole a c was now
all_whole_then a b c was mid now ab bc one two same n voter there =
    let both = between_same a b c ab bc same in
    let x = two both.1 n voter there in
    let y = one both.0 n x.0 x.1 in
    (y.0, y.1, x.2 ∙ y.2)

-- one node's are others
pub whole_set : (seen seen_new : ℕ) (voters : List Voter) (n : ℕ) (voter now : Voter) → slice_get voters n ≡ Some voter → StaysWhole seen seen_new voter now → StayWhole seen seen_new voters (set voters n now)
whole_set seen seen_new voters n voter now there stays same k x here = elim (at_place voters n voter now there k x here) [
  | inl at ↦ (voter, ap (slice_get voters) at.0 ∙ there, subst (λ (v : Voter). v.is_lost ≡ voter.is_lost) at.1 (stays same))
  | inr other ↦ (x, other.1, refl)
]
