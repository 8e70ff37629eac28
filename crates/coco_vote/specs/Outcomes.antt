-- What comes of a vote.
use Rattle.std.specs.Prelude.{◌≡◌, ℕ, ◌+◌, ◌<◌, ◌≤◌, true, false, List}
use Rattle.coco_chief.specs.Chief.{Chief}
use Rattle.coco_chief.specs.Table.{has_voted, is_open}
use Rattle.coco_chief.specs.declared.machine.Phase.TheVariants.{Voting, Forcing}
use Rattle.coco_net.specs.declared.letter.Posted.{Posted}
use Rattle.coco_node.specs.Node.{Node}
use Rattle.coco_vote.specs.Counting.{IsAye}
use Rattle.coco_vote.specs.Preparing.{durable_at}
use Rattle.coco_vote.specs.Taking.{AreVoting}
use Rattle.coco_vote.specs.declared.step.Stops.{Stops}
use Rattle.coco_vote.specs.declared.step.Stops.TheVariants.{Never, Late, Early}
use Rattle.coco_vote.specs.declared.phase.Votes.{Votes}
use Rattle.coco_vote.specs.declared.phase.Votes.TheVariants.{All, Stopped, Silent}

-- an exchange in which a stop was told isn't counted
abbrev pub exchanges_in : Stops → ℕ
exchanges_in Never = 1
exchanges_in Late = 0
exchanges_in Early = 0

-- each node has its entry, its vote is among the letters given, and the coordinator is to force the commit entry
pub record HasAll (epoch : ℕ) (cores : List Node) (chief : Chief) (given : List Posted) : Type 0 where
  pub durable : (n : ℕ) → n < chief.nodes → durable_at cores n ≡ epoch
  pub ayes : (n : ℕ) → n < chief.nodes → IsAye epoch given n
  pub voting : AreVoting epoch cores
  pub current : chief.current ≡ epoch
  pub phase : chief.phase ≡ Forcing

-- sixteen exchanges, in each of which a letter was lost, and the least node whose vote isn't among the letters given
pub record IsSilent (epoch : ℕ) (cores : List Node) (chief : Chief) (given : List Posted) (faults faults_new node : ℕ) : Type 0 where
  pub lost : faults + 16 ≤ faults_new
  pub within : node < chief.nodes
  pub owes : IsAye epoch given node → ⊥
  pub least : (n : ℕ) → n < node → IsAye epoch given n
  pub voting : AreVoting epoch cores
  pub current : chief.current ≡ epoch
  pub phase : chief.phase ≡ Voting

-- by the answer, with the letters given since; early stops are told exactly where the epoch is lost
abbrev pub Comes : Votes → ℕ → List Node → Chief → List Posted → ℕ → ℕ → ℕ → ℕ → Type 0
Comes All epoch cores chief given faults faults_new early early_new = HasAll epoch cores chief given × (early_new ≡ early)
Comes Stopped epoch cores chief given faults faults_new early early_new = (early < early_new) × (chief.current ≡ epoch) × (is_open chief.phase ≡ true)
Comes (Silent node) epoch cores chief given faults faults_new early early_new = IsSilent epoch cores chief given faults faults_new node × (early_new ≡ early)

-- the vote of one of so many nodes isn't counted
pub record IsMissing (count : ℕ) (chief : Chief) : Type 0 where
  pub node : ℕ
  pub within : node < count
  pub missing : has_voted node chief ≡ false

-- this has come of so many exchanges
abbrev pub Settles : Votes → ℕ → ℕ → Chief → Type 0
Settles All count counted chief = (n : ℕ) → n < count → has_voted n chief ≡ true
Settles Stopped count counted chief = ⊥
Settles (Silent node) count counted chief = (counted ≡ 16) × (node < count) × (has_voted node chief ≡ false) × ((n : ℕ) → n < node → has_voted n chief ≡ true)
