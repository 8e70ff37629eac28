-- Nodes that stop before an epoch is run or shipped.
use Rattle.std.specs.Prelude.{◌≡◌, ◌≢◌, ℕ, ◌+◌, ◌<◌, ◌≤◌, ◌==◌, ◌&&◌, ◌||◌, Bool, true, false, not, nat_lt, List, [], ◌∷◌, Some, slice_set}
use Rattle.std.specs.List.{slice_get}
use Rattle.coco_letters.specs.declared.voter.Voter.{Voter}
use Rattle.coco_node.specs.Node.{restarted, Node}

-- no count of a power falls
pub record CountsRise {P : Type 0} (seen early : P → ℕ) (stopped : P → ℕ → ℕ) (old new : P) : Type 0 where
  pub seen_rises : seen old ≤ seen new
  pub early_rises : early old ≤ early new
  pub stopped_rise : (n : ℕ) → n < 8 → stopped old n ≤ stopped new n

-- no node stops, and nothing changes of any
pub record NoneStops (stopped stopped_new : ℕ → ℕ) (cores : List Node) (voters : List Voter) (cores_new : List Node) (voters_new : List Voter) : Type 0 where
  pub counted : (n : ℕ) → n < 8 → stopped_new n ≡ stopped n
  pub cores_stay : cores_new ≡ cores
  pub voters_stay : voters_new ≡ voters

-- This node stops, as its count tells, and no other: it begins anew with its entries and without the rows of the epoch, and its tables are lost.
pub record Stops (epoch n : ℕ) (stopped stopped_new : ℕ → ℕ) (cores : List Node) (voters : List Voter) (cores_new : List Node) (voters_new : List Voter) : Type 0 where
  pub counted : stopped n < stopped_new n
  pub others : (k : ℕ) → k < 8 → k ≢ n → stopped_new k ≡ stopped k
  pub core : Node
  pub voter : Voter
  pub core_there : slice_get cores n ≡ Some core
  pub voter_there : slice_get voters n ≡ Some voter
  pub cores_are : cores_new ≡ slice_set cores n (restarted n (core.durable ∷ []) (Some epoch))
  pub voters_are : voters_new ≡ slice_set voters n (record voter { is_lost = true })

-- by the answer, whether one stops
abbrev pub StopsOne : Bool → ℕ → (ℕ → ℕ) → (ℕ → ℕ) → List Node → List Voter → List Node → List Voter → Type 0
StopsOne true epoch stopped stopped_new cores voters cores_new voters_new = (n : ℕ) × Stops epoch n stopped stopped_new cores voters cores_new voters_new
StopsOne false epoch stopped stopped_new cores voters cores_new voters_new = NoneStops stopped stopped_new cores voters cores_new voters_new

-- Of the first so many nodes, of which there is one, each was asked at a point, and nothing else was; the first point of the first node begins what is
-- known of the questions anew.
abbrev pub asked_first : ℕ → ℕ → (ℕ → ℕ → Bool) → ℕ → ℕ → Bool
asked_first count point asked n p = (nat_lt n count && (p == point)) || (not (point == 1) && asked n p)

abbrev pub AreAsked : ℕ → ℕ → (ℕ → ℕ → Bool) → (ℕ → ℕ → Bool) → Type 0
AreAsked count point asked asked_new = (n p : ℕ) → n < 8 → p ≤ 6 → asked_new n p ≡ asked_first count point asked n p

-- so were all nodes, or those up to the one that stops
abbrev pub AsksFirst : Bool → ℕ → ℕ → (ℕ → ℕ) → (ℕ → ℕ) → (ℕ → ℕ → Bool) → (ℕ → ℕ → Bool) → Type 0
AsksFirst true point count stopped stopped_new asked asked_new = (n : ℕ) × (n < count) × (stopped n < stopped_new n) × AreAsked (n + 1) point asked asked_new
AsksFirst false point count stopped stopped_new asked asked_new = AreAsked count point asked asked_new
