-- A node that stops before the entry of an epoch.
use Rattle.std.proofs.Common.{◌≡◌, ℕ, ◌+◌, ◌<◌, max, Bool, true, false, List, [], ◌∷◌, length, Some, refl, ◌∙◌, subst, sym, arith}
use Rattle.std.specs.List.{slice_get}
use Rattle.std.proofs.Math.ListN.{set}
use Rattle.coco_vote.proofs.StepLemmas.{max_none}
use Rattle.coco_chief.specs.Chief.{Chief}
use Rattle.coco_finish.specs.Exchanges.{AreInStep}
use Rattle.coco_finish.specs.Finishing.{is_behind, AllCanFinish, CanFinish, HasYetToHear}
use Rattle.coco_net.specs.declared.letter.Posted.{Posted}
use Rattle.coco_node.specs.declared.machine.Decision.{Decision}
use Rattle.coco_node.specs.declared.machine.Decision.TheVariants.{Unknown, Aborted}
use Rattle.coco_node.specs.Node.{restarted, Node}
use Rattle.coco_power.specs.Counting.{RisesWhere}
use Rattle.coco_vote.specs.Beginning.{AreNew, IsNew}
use Rattle.coco_vote.proofs.PowerLemmas.{rises_if}
use Rattle.coco_lost.specs.Stopping.{CountsRise}
use Rattle.coco_lost.proofs.Places.{each_set}

unknown_not : ◌≡◌ {A = Decision} Unknown Aborted → ⊥
unknown_not is = absurd cc

-- a number below is below the next
pub new_later : (epoch : ℕ) (cores : List Node) → AreNew epoch cores → AreNew (epoch + 1) cores
new_later epoch cores new n core at = let was = new n core at in record { idle = was.idle; kept = omega (arith, was.kept); older = omega (arith, was.older) }

module _ (epoch k : ℕ) (cores cores_new : List Node) (core : Node) (within : k < length cores) (there : slice_get cores k ≡ Some core)
    (is : cores_new ≡ set cores k (restarted k (core.durable ∷ []) (Some epoch))) where
  abbrev anew : Node
  anew = restarted k (core.durable ∷ []) (Some epoch)

  each_core : (P : ℕ → Node → Type 0) → P k anew → ((n : ℕ) (c : Node) → slice_get cores n ≡ Some c → P n c) → (n : ℕ) (c : Node) → slice_get cores_new n ≡ Some c → P n c
  each_core P here was = subst (λ (cs : List Node). (n : ℕ) (c : Node) → slice_get cs n ≡ Some c → P n c) (sym is) (each_set cores k anew within P here (λ n c other at. was n c at))

  pub next_stopped : AreNew epoch cores → AreNew (epoch + 1) cores_new
  next_stopped new =
      let was = new k core there in
      each_core (λ n c. IsNew (epoch + 1) c) (record { idle = refl; kept = omega arith; older = omega (arith, was.older, max_none core.durable) }) (new_later epoch cores new)

  pub can_stopped : (last : ℕ) → AllCanFinish last cores → AllCanFinish last cores_new
  can_stopped last can = each_core (λ n c. CanFinish last c) (record { has = omega (arith, (can k core there).has, max_none core.durable); stands = λ _. unknown_not }) can

  pub in_step_stopped : (last : ℕ) (chief : Chief) (sent : List Posted) (marks : List Bool) → AreInStep last cores chief sent marks → AreInStep last cores_new chief sent marks
  in_step_stopped last chief sent marks step = record {
    behind = each_core (λ n c. is_behind marks n ≡ true → HasYetToHear last c) (λ marked. record { newest = max_none core.durable ∙ (step.behind k core there marked).newest; unknown = refl }) step.behind;
    told = step.told;
    up = step.up;
  }

-- ---- counts

-- the counts are those of the beginning up to the last question, which may raise them
module _ {P : Type 0} (seen early : P → ℕ) (stopped : P → ℕ → ℕ) (start now after : P) (seen_is : seen now ≡ seen start) (early_is : early now ≡ early start)
    (stopped_is : (n : ℕ) → n < 8 → stopped now n ≡ stopped start n) (s e : Bool) (t : ℕ → Bool) (seen_rises : RisesWhere s (seen now) (seen after))
    (early_rises : RisesWhere e (early now) (early after)) (stopped_rise : (n : ℕ) → n < 8 → RisesWhere (t n) (stopped now n) (stopped after n)) where
  pub counts_asked : CountsRise seen early stopped start after
  counts_asked = record {
    seen_rises = omega (arith, seen_is, seen_rises.0);
    early_rises = omega (arith, early_is, early_rises.0);
    stopped_rise = λ n lt. omega (arith, stopped_is n lt, (stopped_rise n lt).0);
  }

  pub seen_told : s ≡ true → seen start < seen after
  seen_told is = let more : seen now < seen after = seen_rises.1.1 is in omega (arith, seen_is, more)

  pub early_told : e ≡ true → early start < early after
  early_told is = let more : early now < early after = early_rises.1.1 is in omega (arith, early_is, more)

  pub stopped_told : (n : ℕ) → n < 8 → t n ≡ true → stopped start n < stopped after n
  stopped_told n lt is = let more : stopped now n < stopped after n = (stopped_rise n lt).1.1 is in omega (arith, stopped_is n lt, more)

  pub stopped_not : (n : ℕ) → n < 8 → t n ≡ false → stopped after n ≡ stopped start n
  stopped_not n lt is = rises_if false (stopped now n) (stopped after n) (subst (λ (b : Bool). RisesWhere b (stopped now n) (stopped after n)) is (stopped_rise n lt)) ∙ stopped_is n lt

-- they are those of the beginning still
pub counts_same : {P : Type 0} (seen early : P → ℕ) (stopped : P → ℕ → ℕ) (start now : P) → seen now ≡ seen start → early now ≡ early start → ((n : ℕ) → n < 8 → stopped now n ≡ stopped start n) → CountsRise seen early stopped start now
counts_same seen early stopped start now seen_is early_is stopped_is = record {
  seen_rises = omega (arith, seen_is);
  early_rises = omega (arith, early_is);
  stopped_rise = λ n lt. omega (arith, stopped_is n lt);
}
