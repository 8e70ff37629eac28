-- Votes that the coordinator counts.
use Rattle.std.specs.Prelude.{◌≡◌, ℕ, ◌<◌, ◌≤◌, Bool, true, false, List, ◌++◌, Option, Contains, length}
use Rattle.std.specs.List.{list_all}
use Rattle.coco_chief.specs.Chief.{Chief}
use Rattle.coco_chief.specs.Table.{has_voted}
use Rattle.coco_chief.specs.declared.machine.Phase.{Phase}
use Rattle.coco_chief.specs.declared.machine.Phase.TheVariants.{Rest, Voting, Forcing}
use Rattle.coco_msg.specs.declared.message.Message.TheVariants.{Prepare}
use Rattle.coco_net.specs.declared.letter.Posted.{Posted}
use Rattle.coco_node.specs.declared.machine.TheConstants.{COORDINATOR}
use Rattle.coco_letters.specs.Saying.{posted}
use Rattle.coco_vote.specs.Taking.{vote_of}

-- a node is asked for its vote
abbrev pub prepare_of : ℕ → ℕ → Posted
prepare_of n epoch = posted COORDINATOR n (Prepare epoch)

-- the coordinator waits for votes, or has them all
abbrev pub FitsPhase : Phase → List Bool → Type 0
FitsPhase Rest voted = ⊥
FitsPhase Voting voted = list_all (λ counted. counted) voted ≡ false
FitsPhase Forcing voted = list_all (λ counted. counted) voted ≡ true

-- The coordinator has counted a yes to the epoch of just those nodes of which this holds, and waits for others unless it has all.
pub record HasCounted (epoch : ℕ) (HasGiven : ℕ → Type 0) (chief : Chief) : Type 0 where
  pub current : chief.current ≡ epoch
  pub phase : FitsPhase chief.phase chief.voted
  pub flags : length chief.voted ≡ chief.nodes
  pub only : (n : ℕ) → has_voted n chief ≡ true → HasGiven n
  pub all : (n : ℕ) → n < chief.nodes → HasGiven n → has_voted n chief ≡ true

-- the yes of a node is among these letters
abbrev pub IsAye : ℕ → List Posted → ℕ → Type 0
IsAye epoch posts n = Contains posts (vote_of n epoch true)

-- a net later, whatever was answered: it has given more, faults don't fall, and it wasn't asked for disturbances
pub record GivesOn (given : List Posted) (faults : ℕ) (seed : Option ℕ) (given_new : List Posted) (faults_new : ℕ) (seed_new : Option ℕ) : Type 0 where
  pub more : List Posted
  pub gives : given_new ≡ given ++ more
  pub faults_rise : faults ≤ faults_new
  pub seed_stays : seed_new ≡ seed
