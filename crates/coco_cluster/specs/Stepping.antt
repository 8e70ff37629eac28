-- The steps that nodes and coordinator make in a turn, and what a power and a net are asked for in it.
use Rattle.std.specs.Global.{Vec}
use Rattle.std.specs.Prelude.{◌≡◌, ◌⊎◌, ⊤, ℕ, ◌+◌, ◌-◌, ◌^◌, ◌<◌, ◌≤◌, Bool, true, false, List, [], ◌∷◌, ◌++◌, Option, Some, None, Result, Ok, Err}
use Rattle.coco_entry.specs.declared.layout.Layout.{Layout}
use Rattle.coco_letters.specs.Around.{Around}
use Rattle.coco_letters.specs.GivingUp.{since}
use Rattle.coco_letters.specs.Worlds.{Arrives, IsWorld, Scene}
use Rattle.coco_ship.specs.Shipping.{HaveAnswered}
use Rattle.coco_trial.specs.Running.{ring_of}
use Rattle.coco_types.specs.declared.call.Request.{Request}
use Rattle.coco_world.specs.Steps.{IsAbove}
use Rattle.coco_world.specs.World.{World}
use Rattle.coco_cluster.specs.declared.stop.Stop.{Stop}
use Rattle.coco_cluster.specs.declared.stop.Stop.TheVariants as stop
use Rattle.coco_cluster.specs.declared.trying.Tried.{Tried}
use Rattle.coco_cluster.specs.declared.trying.Tried.TheVariants.{Voted, GivenUp}

-- ---- the world of nodes, coordinator and letters

-- Behind steps this number is above all that was begun, prepared or committed, and just these epochs were committed meanwhile, the newest first.
pub record Reaches (next : ℕ) (added : List ℕ) (w after : World) : Type 0 where
  pub above : IsAbove after next
  pub commits : after.commits ≡ added ++ w.commits

-- Each world of one scene in which the one number is above all goes on to a world of the other, in which the other number is, by steps between these counts of the
-- nodes' stops.
abbrev pub StepsTo : (ℕ → ℕ) → (ℕ → ℕ) → ℕ → ℕ → List ℕ → Scene → Scene → Type 0
StepsTo stopped stopped_new next next_new commits a b = (w : World) → IsWorld w a → IsAbove w next → Arrives stopped stopped_new (Reaches next_new commits) a b w

-- the epoch before the next one, and no other
abbrev pub IsLast : ℕ → List ℕ → Type 0
IsLast next commits = (e : ℕ) × (next ≡ e + 1) × (commits ≡ e ∷ [])

-- what an attempt has committed, by its answer
abbrev pub HaveCommitted : Result (Option (Vec Request)) Stop → ℕ → List ℕ → Type 0
HaveCommitted (Ok None) next commits = IsLast next commits
HaveCommitted (Ok (Some again)) next commits = commits ≡ []
HaveCommitted (Err f) next commits = (commits ≡ []) ⊎ IsLast next commits

-- and what a turn with these requests has: its one epoch, or nothing; where a file is refused behind that, either
abbrev pub HasCommittedBy : Result (Unit {0}) Stop → List Request → ℕ → List ℕ → Type 0
HasCommittedBy (Ok x) [] next commits = commits ≡ []
HasCommittedBy (Ok x) (r ∷ rs) next commits = IsLast next commits
HasCommittedBy (Err stop.Read) requests next commits = ⊥
HasCommittedBy (Err stop.Say) requests next commits = ⊥
HasCommittedBy (Err stop.Disk) requests next commits = ⊤
HasCommittedBy (Err (stop.NotAStore file at)) requests next commits = (commits ≡ []) ⊎ IsLast next commits
HasCommittedBy (Err stop.NoMemory) requests next commits = ⊤
HasCommittedBy (Err stop.Unreachable) requests next commits = commits ≡ []
HasCommittedBy (Err stop.EpochsUsedUp) requests next commits = commits ≡ []

-- where the call ended by itself: any answer but a fault of the disk and want of memory, which may come between two steps
abbrev pub OnEnd : {T : Type 0} → Result T Stop → Type 0 → Type 0
OnEnd (Ok x) Fact = Fact
OnEnd (Err stop.Read) Fact = Fact
OnEnd (Err stop.Say) Fact = Fact
OnEnd (Err stop.Disk) Fact = ⊤
OnEnd (Err (stop.NotAStore file at)) Fact = Fact
OnEnd (Err stop.NoMemory) Fact = ⊤
OnEnd (Err stop.Unreachable) Fact = Fact
OnEnd (Err stop.EpochsUsedUp) Fact = Fact

-- ---- what a power and a net were asked for

-- the greatest count of epochs begun, at which a power's count stays
abbrev pub most_begun : ℕ
most_begun = 2 ^ 64 - 1

-- the count has risen, or is at its end
abbrev pub HasBegun : ℕ → ℕ → Type 0
HasBegun old new = ((old < new) × (new < most_begun)) ⊎ (new ≡ most_begun)

-- An epoch that all voted for: none stopped before its entry, each node was asked for a stop at each point from this one on up to that one, and the net has given each primary an answer
-- of each copy that it has all of the epoch's pieces.
pub record IsVotedFor (layout : Layout) (epoch first last : ℕ) (a b : Around) : Type 0 where
  pub early : b.early ≡ a.early
  pub asked : (n p : ℕ) → n < layout.nodes → first ≤ p → p ≤ last → b.asked n p ≡ true
  pub answered : HaveAnswered (ring_of layout) epoch (since a.given b.given)

-- so it is where this is true
abbrev pub VotedForIf : Bool → Layout → ℕ → ℕ → Around → Around → Type 0
VotedForIf true layout epoch first a b = IsVotedFor layout epoch first 5 a b
VotedForIf false layout epoch first a b = ⊤

abbrev pub VotedForBy : Tried → Layout → ℕ → ℕ → Around → Around → Type 0
VotedForBy (Voted dones trace) layout epoch first a b = IsVotedFor layout epoch first 5 a b
VotedForBy (GivenUp again) layout epoch first a b = ⊤

-- an attempt that was given up has begun an epoch at most, and has used its number if a node stopped before its entry
pub record MayHaveBegun (next next_new : ℕ) (a b : Around) : Type 0 where
  pub begun : (b.begun ≡ a.begun) ⊎ HasBegun a.begun b.begun
  pub used : a.early < b.early → next + 1 ≤ next_new

-- one that committed its epoch has begun it, and asked for all of its stops
pub record AsksForAll (layout : Layout) (epoch : ℕ) (a b : Around) : Type 0 where
  pub begun : HasBegun a.begun b.begun
  pub all : IsVotedFor layout epoch 1 6 a b

abbrev pub AsksBy : Option (Vec Request) → Layout → ℕ → ℕ → Around → Around → Type 0
AsksBy (Some again) layout next next_new a b = MayHaveBegun next next_new a b
AsksBy None layout next next_new a b = AsksForAll layout next a b

-- A turn that committed an epoch: the count of epochs begun has risen, each node was asked for a stop at each point of the epoch, each primary was given the answers of its copies, and two
-- numbers or more were used if a node stopped before its entry.
pub record HasAsked (layout : Layout) (next next_new : ℕ) (a b : Around) : Type 0 where
  pub epoch : ℕ
  pub number : next_new ≡ epoch + 1
  pub begun : HasBegun a.begun b.begun
  pub asked : (n p : ℕ) → n < layout.nodes → 1 ≤ p → p ≤ 6 → b.asked n p ≡ true
  pub answered : HaveAnswered (ring_of layout) epoch (since a.given b.given)
  pub used : a.early < b.early → next + 2 ≤ next_new
