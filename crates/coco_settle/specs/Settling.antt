-- From all votes for an epoch to the next epoch.
use Rattle.std.specs.Prelude.{◌≡◌, ◌⊎◌, ℕ, ◌+◌, ◌<◌, ◌==◌, ◌||◌, false, true, List, Some}
use Rattle.std.specs.List.{slice_get}
use Rattle.coco_chief.specs.Chief.{Chief}
use Rattle.coco_chief.specs.Shown.{chief_of}
use Rattle.coco_chief.specs.Table.{has_finished}
use Rattle.coco_chief.specs.declared.machine.Phase.TheVariants.{Rest}
use Rattle.coco_finish.specs.Stopping.{AllHaveNewest}
use Rattle.coco_letters.specs.Telling.{FinishedBelow, VotesBelow}
use Rattle.coco_letters.specs.declared.voter.Voter.{Voter}
use Rattle.coco_members.specs.AtRest.{AreMembers, ShipsBelow}
use Rattle.coco_members.specs.declared.members.Members.{Members}
use Rattle.coco_net.specs.declared.letter.Posted.{Posted}
use Rattle.coco_vote.specs.Taking.{AreVoting}

-- The epoch is committed, and no node has heard of it: the newest entry of each is that of the epoch, it doesn't know
-- what became of that, and no word that it has finished it is told as sent.
pub record AreToFinish (epoch : ℕ) (sent : List Posted) (k : Members) : Type 0 where
  pub are : AreMembers k
  pub phase : (chief_of k.chief).phase ≡ Rest
  pub current : (chief_of k.chief).current ≡ epoch
  pub last : (chief_of k.chief).last ≡ epoch
  pub none : (n : ℕ) → has_finished n (chief_of k.chief) ≡ false
  pub voting : AreVoting epoch k.cores.items
  pub newest : AllHaveNewest epoch k.cores.items
  pub ships : ShipsBelow (epoch + 1) sent
  pub votes : VotesBelow (epoch + 1) sent
  pub finished : FinishedBelow epoch sent

-- the coordinator has heard no more than which nodes have finished
pub record KeepsChief (chief chief_new : Chief) : Type 0 where
  pub nodes : chief_new.nodes ≡ chief.nodes
  pub current : chief_new.current ≡ chief.current
  pub last : chief_new.last ≡ chief.last
  pub committed : chief_new.committed ≡ chief.committed

-- this epoch is committed besides those of before, and is the last one
pub record HasCommitted (epoch : ℕ) (chief chief_new : Chief) : Type 0 where
  pub nodes : chief_new.nodes ≡ chief.nodes
  pub current : chief_new.current ≡ epoch
  pub last : chief_new.last ≡ epoch
  pub committed : (e : ℕ) → chief_new.committed e ≡ (epoch == e || chief.committed e)

-- a node has lost its tables if its count of stops rose, and otherwise nothing has changed of what is in hand of it
abbrev pub MarkStop : ℕ → (ℕ → ℕ) → (ℕ → ℕ) → Voter → List Voter → Type 0
MarkStop n stopped stopped_new voter voters_new =
    ((stopped n < stopped_new n) × (slice_get voters_new n ≡ Some (record voter { is_lost = true }))) ⊎ ((stopped_new n ≡ stopped n) × (slice_get voters_new n ≡ Some voter))

-- just the nodes whose counts of stops rose have lost their tables meanwhile, and nothing else has changed of what is in hand of nodes
abbrev pub MarkStops : (ℕ → ℕ) → (ℕ → ℕ) → List Voter → List Voter → Type 0
MarkStops stopped stopped_new voters voters_new = (n : ℕ) (voter : Voter) → slice_get voters n ≡ Some voter → MarkStop n stopped stopped_new voter voters_new
