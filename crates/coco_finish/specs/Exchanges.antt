-- What rounds of letters come to, while a committed epoch is finished.
use Rattle.std.specs.Prelude.{◌≡◌, ◌⊎◌, ℕ, ◌+◌, ◌<◌, ◌≤◌, Bool, true, false, List, ◌++◌, Contains}
use Rattle.coco_chief.specs.Chief.{Chief}
use Rattle.coco_chief.specs.Table.{has_finished, is_voting}
use Rattle.coco_msg.specs.declared.message.Message.TheVariants.{Commit}
use Rattle.coco_net.specs.declared.letter.Posted.{Posted}
use Rattle.coco_node.specs.Node.{Node}
use Rattle.coco_node.specs.declared.machine.TheConstants.{COORDINATOR}
use Rattle.coco_letters.specs.Saying.{posted}
use Rattle.coco_finish.specs.Finishing.{finished_of, is_behind, AreBehind, AreTold}

-- the coordinator tells a node that an epoch is committed
abbrev pub commit_of : ℕ → ℕ → Posted
commit_of n epoch = posted COORDINATOR n (Commit epoch)

-- so it tells each node that hasn't finished
abbrev pub AreReminded : ℕ → Chief → List Posted → Type 0
AreReminded epoch chief posts = (n : ℕ) → n < chief.nodes → has_finished n chief ≡ false → Contains posts (commit_of n epoch)

abbrev pub HaveAllFinished : Chief → Type 0
HaveAllFinished chief = (n : ℕ) → n < chief.nodes → has_finished n chief ≡ true

-- Rounds gave the coordinator letters, and it heard all of them: a node has finished the last committed epoch where it
-- had before, or where its word of that was given.
pub record HearsGiven (chief : Chief) (given : List Posted) (chief_new : Chief) (given_new : List Posted) : Type 0 where
  pub more : List Posted
  pub given_is : given_new ≡ given ++ more
  pub nodes : chief_new.nodes ≡ chief.nodes
  pub last : chief_new.last ≡ chief.last
  pub committed : chief_new.committed ≡ chief.committed
  pub current : chief_new.current ≡ chief.current
  pub phase : is_voting chief.phase ≡ false → chief_new.phase ≡ chief.phase
  pub stays : (n : ℕ) → has_finished n chief ≡ true → has_finished n chief_new ≡ true
  pub heard : (n : ℕ) → n < chief.nodes → Contains more (finished_of n chief.last) → has_finished n chief_new ≡ true
  pub only : (n : ℕ) → has_finished n chief_new ≡ true → (has_finished n chief ≡ true) ⊎ Contains more (finished_of n chief.last)

-- no node that has finished is behind
abbrev pub AreUp : Chief → List Bool → Type 0
AreUp chief behind = (n : ℕ) → has_finished n chief ≡ true → is_behind behind n ≡ false

-- Cores, letters and tables are in step: a node that is behind has heard nothing of the epoch, no letter tells that it
-- has finished, and it hasn't, as the coordinator knows.
pub record AreInStep (epoch : ℕ) (cores : List Node) (chief : Chief) (sent : List Posted) (marks : List Bool) : Type 0 where
  pub behind : AreBehind epoch cores marks
  pub told : AreTold epoch sent marks
  pub up : AreUp chief marks

-- a round lost a letter, or else this holds
abbrev pub UnlessFault : ℕ → ℕ → Type 0 → Type 0
UnlessFault faults faults_new Fact = (faults < faults_new) ⊎ Fact

-- ---- the phase

-- each node that hasn't finished is told among the letters sent since
pub record AsksAll (epoch : ℕ) (chief : Chief) (sent sent_new : List Posted) : Type 0 where
  pub posts : List Posted
  pub sent_is : sent_new ≡ sent ++ posts
  pub asked : AreReminded epoch chief posts

-- a node hasn't finished
pub record OneHasNot (chief : Chief) : Type 0 where
  pub node : ℕ
  pub within : node < chief.nodes
  pub yet : has_finished node chief ≡ false

-- A node hasn't finished, though it was told among the letters sent since, and so many rounds have lost a letter.
pub record StaysSilent (count epoch : ℕ) (chief : Chief) (sent sent_new : List Posted) (faults faults_new : ℕ) : Type 0 where
  pub one : OneHasNot chief
  pub asks : AsksAll epoch chief sent sent_new
  pub lost : faults + count ≤ faults_new

-- so it is after 16 exchanges, and its word isn't among the letters given
pub record IsSilent (epoch : ℕ) (chief : Chief) (sent given sent_new given_new : List Posted) (faults faults_new : ℕ) : Type 0 where
  pub silent : StaysSilent 16 epoch chief sent sent_new faults faults_new
  pub more : List Posted
  pub given_is : given_new ≡ given ++ more
  pub not_given : Contains more (finished_of silent.one.node epoch) → ⊥
