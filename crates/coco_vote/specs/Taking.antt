-- What holds of nodes and their letters while they vote on an epoch.
use Rattle.std.specs.Prelude.{◌≡◌, ◌≢◌, ◌⊎◌, ℕ, ◌<◌, ◌≤◌, Bool, true, false, List, [], ◌∷◌, ◌++◌, Option, Some, Contains, slice_set}
use Rattle.std.specs.List.{slice_get}
use Rattle.coco_host.specs.Files.{Files}
use Rattle.coco_msg.specs.declared.message.Message.TheVariants.{Prepare, Vote}
use Rattle.coco_net.specs.declared.letter.Letter.{Letter}
use Rattle.coco_net.specs.declared.letter.Posted.{Posted}
use Rattle.coco_node.specs.declared.machine.TheConstants.{COORDINATOR}
use Rattle.coco_node.specs.declared.machine.Decision.TheVariants.{Unknown}
use Rattle.coco_node.specs.Node.{Node}
use Rattle.coco_append.specs.Gaining.{IsNodeLog, Stands}
use Rattle.coco_letters.specs.Saying.{posted}
use Rattle.coco_letters.specs.Turns.{IsFrom, IsForcing}
use Rattle.coco_letters.specs.declared.nodes.Heard.{Heard}
use Rattle.coco_letters.specs.declared.nodes.Heard.TheVariants.{Nothing, Voted, Forces}
use Rattle.coco_letters.specs.declared.voter.Voter.{Voter}
use Rattle.coco_log.specs.LogState.{LogState}
use Rattle.coco_store.specs.Contents.{Contents}
use Rattle.coco_vote.specs.declared.step.Step.{Step}
use Rattle.coco_vote.specs.declared.step.Step.TheVariants as steps
use Rattle.coco_vote.specs.declared.step.Stops.{Stops}
use Rattle.coco_vote.specs.declared.step.Stops.TheVariants.{Never, Late, Early}
use Rattle.coco_vote.specs.Preparing.{durable_at}
use Rattle.coco_vote.specs.Steps.{HasNewest}

-- a node that may vote on an epoch, or has: it forces nothing, has lost no rows of it, and has no newer entry than its own
pub record IsVoting (epoch : ℕ) (core : Node) : Type 0 where
  pub idle : core.forcing ≡ 0
  pub kept : core.lost < epoch
  pub stands : (core.durable < epoch) ⊎ ((core.durable ≡ epoch) × (core.decision ≡ Unknown))

abbrev pub AreVoting : ℕ → List Node → Type 0
AreVoting epoch cores = (n : ℕ) (core : Node) → slice_get cores n ≡ Some core → IsVoting epoch core

-- Whatever has come of it, it forces nothing, has lost no later rows, has no later entry, and doesn't know what becomes of the epoch's.
pub record IsSettled (epoch : ℕ) (core : Node) : Type 0 where
  pub idle : core.forcing ≡ 0
  pub lost : core.lost ≤ epoch
  pub durable : core.durable ≤ epoch
  pub unknown : core.durable ≡ epoch → core.decision ≡ Unknown

-- a node doesn't know what became of its newest entry, or it had that entry before and knew the same of it
abbrev pub KnowsNoMore : ℕ → List Node → Node → Type 0
KnowsNoMore n cores core = (core.decision ≡ Unknown) ⊎ ((was : Node) × (slice_get cores n ≡ Some was) × (was.durable ≡ core.durable) × (was.decision ≡ core.decision))

-- so it is with all nodes, and each has its entries of before, or that of the epoch besides
pub record KeepsCores (epoch : ℕ) (cores cores_new : List Node) : Type 0 where
  pub settled : (n : ℕ) (core : Node) → slice_get cores_new n ≡ Some core → IsSettled epoch core
  pub entries : (n : ℕ) → (durable_at cores_new n ≡ durable_at cores n) ⊎ (durable_at cores_new n ≡ epoch)
  pub decided : (n : ℕ) (core : Node) → slice_get cores_new n ≡ Some core → KnowsNoMore n cores core

abbrev pub vote_of : ℕ → ℕ → Bool → Posted
vote_of n epoch vote = posted n COORDINATOR (Vote epoch vote)

-- What a node that votes hears in a letter: it is asked for its vote and gives it again, or is to force its entry first; it hears nothing in any other.
abbrev pub HeardSo : Heard → ℕ → ℕ → Letter → List Node → List Posted → List Node → List Posted → Type 0
HeardSo Nothing n epoch letter cores sent cores_new sent_new = (cores_new ≡ cores) × (sent_new ≡ sent) × (IsFrom COORDINATOR letter (Prepare epoch) → ⊥)
HeardSo Voted n epoch letter cores sent cores_new sent_new = HasNewest epoch n cores × (cores_new ≡ cores) × (sent_new ≡ sent ++ vote_of n epoch true ∷ [])
HeardSo (Forces of) n epoch letter cores sent cores_new sent_new =
    (of ≡ epoch) × (sent_new ≡ sent) × IsForcing epoch n cores_new × ((core : Node) × (slice_get cores n ≡ Some core) × (cores_new ≡ slice_set cores n (record core { forcing = epoch })))

-- Of the votes on an epoch only a yes is told as sent, and only of a node that has the entry. Such a node was asked for a stop before the entry,
-- before its vote, and behind it where that has gone out.
pub record AreTold (epoch : ℕ) (cores : List Node) (sent : List Posted) (asked : ℕ → ℕ → Bool) : Type 0 where
  pub ayes : (n : ℕ) → Contains sent (vote_of n epoch true) → durable_at cores n ≡ epoch
  pub noes : (n : ℕ) → Contains sent (vote_of n epoch false) → ⊥
  pub before : (n : ℕ) → n < 8 → durable_at cores n ≡ epoch → (asked n 3 ≡ true) × (asked n 4 ≡ true)
  pub behind : (n : ℕ) → n < 8 → Contains sent (vote_of n epoch true) → asked n 5 ≡ true

-- a node that is marked as asked for a stop behind its vote was
abbrev pub IsMarked : ℕ → Voter → (ℕ → ℕ → Bool) → Type 0
IsMarked n voter asked = voter.asked_after_vote ≡ true → asked n 5 ≡ true

abbrev pub stops_of : Step → Stops
stops_of steps.Voted = Never
stops_of (steps.Restarted voted) = Late
stops_of steps.Stopped = Early

-- this holds, unless an epoch is lost
abbrev pub UnlessLost : Stops → Type 0 → Type 0
UnlessLost Never Fact = Fact
UnlessLost Late Fact = Fact
UnlessLost Early Fact = Unit {0}

-- by what was told of stops
abbrev pub CountsStops : Stops → ℕ → ℕ → ℕ → ℕ → Type 0
CountsStops Never seen early seen_new early_new = (seen_new ≡ seen) × (early_new ≡ early)
CountsStops Late seen early seen_new early_new = (seen < seen_new) × (early_new ≡ early)
CountsStops Early seen early seen_new early_new = (seen < seen_new) × (early < early_new)

-- what was told of stops, and then
abbrev pub both_of : Stops → Stops → Stops
both_of Never next = next
both_of Late Never = Late
both_of Late Late = Late
both_of Late Early = Early
both_of Early next = Early

-- a node that was asked for its vote in one of these letters has given it
abbrev pub HasGiven : ℕ → ℕ → List Letter → List Posted → Type 0
HasGiven epoch n letters fresh = (letter : Letter) → Contains letters letter → IsFrom COORDINATOR letter (Prepare epoch) → Contains fresh (vote_of n epoch true)

-- whether the epoch is lost
abbrev pub has_lost : Stops → Bool
has_lost Never = false
has_lost Late = false
has_lost Early = true

-- ---- all nodes

-- these are the partitions that each node holds
abbrev pub AreHeld : (ℕ → List Bool) → List Voter → Type 0
AreHeld hold voters = (n : ℕ) (voter : Voter) → slice_get voters n ≡ Some voter → hold n ≡ voter.held.items

abbrev pub AreMarked : List Voter → (ℕ → ℕ → Bool) → Type 0
AreMarked voters asked = (n : ℕ) (voter : Voter) → slice_get voters n ≡ Some voter → IsMarked n voter asked

-- each log may be appended to, and stands in its file
abbrev pub AreReady : List Voter → Option Files → (Files → Type 0) → Type 0
AreReady voters reads may_leave = (n : ℕ) (voter : Voter) → slice_get voters n ≡ Some voter → (voter.log.spent ≡ false) × Stands voter.log reads may_leave

-- no two nodes have their logs in one file
abbrev pub AreApart : List Voter → Type 0
AreApart voters = (n m : ℕ) (voter other : Voter) → slice_get voters n ≡ Some voter → slice_get voters m ≡ Some other → n ≢ m → voter.log.file ≢ other.log.file

-- their logs are those of these contents
abbrev pub HaveLogs : Contents → List Voter → Type 0
HaveLogs c voters = (n : ℕ) (voter : Voter) → slice_get voters n ≡ Some voter → IsNodeLog c n voter.log

-- a node holds what it held, and its log lies where it lay
pub record KeepsPlace (voter voter_new : Voter) : Type 0 where
  pub held : voter_new.held ≡ voter.held
  pub file : voter_new.log.file ≡ voter.log.file
  pub kind : voter_new.log.kind ≡ voter.log.kind

abbrev pub KeepPlaces : List Voter → List Voter → Type 0
KeepPlaces voters voters_new = (n : ℕ) (now : Voter) → slice_get voters_new n ≡ Some now → (was : Voter) × (slice_get voters n ≡ Some was) × KeepsPlace was now

-- a log in no node's file
abbrev pub IsElsewhere : LogState → List Voter → Type 0
IsElsewhere log voters = (n : ℕ) (voter : Voter) → slice_get voters n ≡ Some voter → log.file ≢ voter.log.file

-- all files are as they were but those of the nodes' logs
abbrev pub SameElsewhere : List Voter → Files → Files → Type 0
SameElsewhere voters old new = (file : ℕ) → ((n : ℕ) (voter : Voter) → slice_get voters n ≡ Some voter → file ≢ voter.log.file) → new file ≡ old file

-- where no stop was told meanwhile, a node has lost its tables only if it had before
abbrev pub StaysWhole : ℕ → ℕ → Voter → Voter → Type 0
StaysWhole seen seen_new voter voter_new = seen_new ≡ seen → voter_new.is_lost ≡ voter.is_lost

-- so it is with each
abbrev pub StayWhole : ℕ → ℕ → List Voter → List Voter → Type 0
StayWhole seen seen_new voters voters_new = seen_new ≡ seen → (n : ℕ) (now : Voter) → slice_get voters_new n ≡ Some now → (was : Voter) × (slice_get voters n ≡ Some was) × (now.is_lost ≡ was.is_lost)
