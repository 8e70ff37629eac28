-- What holds of nodes and coordinator around a vote on an epoch.
use Rattle.std.specs.Prelude.{◌≡◌, ℕ, ◌+◌, ◌<◌, Bool, false, true, List, length}
use Rattle.coco_ast.specs.Keyed.{Rows}
use Rattle.coco_chief.specs.Chief.{Chief}
use Rattle.coco_chief.specs.Shown.{chief_of}
use Rattle.coco_chief.specs.declared.machine.Phase.TheVariants.{Rest}
use Rattle.coco_finish.specs.Finishing.{AllCanFinish}
use Rattle.coco_letters.specs.Around.{Around}
use Rattle.coco_letters.specs.GivingUp.{IsGivenUp, since}
use Rattle.coco_letters.specs.Telling.{FinishedBelow, VotesBelow}
use Rattle.coco_letters.specs.declared.voter.Voter.{Voter}
use Rattle.coco_net.specs.declared.letter.Posted.{Posted}
use Rattle.coco_node.specs.Node.{Node}
use Rattle.coco_vote.specs.Asking.{AreAsked}
use Rattle.coco_vote.specs.Beginning.{AreNew}
use Rattle.coco_vote.specs.Outcomes.{HasAll}
use Rattle.coco_vote.specs.Taking.{KeepPlaces}
use Rattle.coco_vote.specs.declared.step.Step.TheVariants.{Voted}
use Rattle.coco_members.specs.AtRest.{AreMembers, LettersBelow, ShipsBelow}
use Rattle.coco_members.specs.Voted.{HaveVoted}
use Rattle.coco_members.specs.declared.members.Members.{Members}
use Rattle.coco_trial.specs.Running.{GiveShards}

-- ---- before and behind it

-- No epoch is voted on, the next has this number, and each node can finish what was committed last.
pub record CoresRest (next : ℕ) (chief : Chief) (cores : List Node) : Type 0 where
  pub phase : chief.phase ≡ Rest
  pub begun : chief.current < next
  pub committed : chief.last < next
  pub new : AreNew next cores
  pub can : AllCanFinish chief.last cores

-- so it is before a vote on that epoch, of which letters of its ship phase alone may be told as sent
pub record MayVote (epoch : ℕ) (sent : List Posted) (k : Members) : Type 0 where
  pub are : AreMembers k
  pub rest : CoresRest epoch (chief_of k.chief) k.cores.items
  pub ships : ShipsBelow (epoch + 1) sent
  pub votes : VotesBelow epoch sent
  pub finished : FinishedBelow epoch sent

-- and where it was given up, so that its number is used
pub record HaveGivenUp (epoch : ℕ) (sent : List Posted) (k : Members) : Type 0 where
  pub are : AreMembers k
  pub rest : CoresRest (epoch + 1) (chief_of k.chief) k.cores.items
  pub letters : LettersBelow (epoch + 1) sent

-- commit entries and tables are as they were, and the entries of each node lie where they lay
pub record KeepsTables (old new : Members) : Type 0 where
  pub log : new.log ≡ old.log
  pub tables : new.tables ≡ old.tables
  pub count : length new.cores.items ≡ length old.cores.items
  pub places : KeepPlaces old.voters.items new.voters.items

-- ---- what comes of it

-- nobody was asked for a stop behind a vote in this epoch yet
abbrev pub unmarked : Voter → Voter
unmarked voter = record voter { asked_after_vote = false }

-- each node has its entry, its vote is among the letters given, it was asked for all stops up to that behind its vote, and none stopped before its entry
pub record AllVote (epoch : ℕ) (cores : List Node) (chief : Chief) (a b : Around) : Type 0 where
  pub all : HasAll epoch cores chief (since a.given b.given)
  pub early : b.early ≡ a.early
  pub points : (n : ℕ) → n < length cores → AreAsked Voted (b.asked n)

-- the coordinator rests behind the epoch, and each node is ready for the next one; it was given up for its cause
pub record GivesUpVote (epoch : ℕ) (cores : List Node) (chief : Chief) (a b : Around) : Type 0 where
  pub phase : chief.phase ≡ Rest
  pub current : chief.current ≡ epoch
  pub new : AreNew (epoch + 1) cores
  pub cause : IsGivenUp a b

abbrev pub ComesOf : Bool → ℕ → List Node → Chief → Around → Around → Type 0
ComesOf true epoch cores chief a b = AllVote epoch cores chief a b
ComesOf false epoch cores chief a b = GivesUpVote epoch cores chief a b

-- all have voted, whatever map to promote the tables gives, or the epoch was given up
abbrev pub Decided : Bool → ℕ → List Posted → Members → Members → Type 0
Decided true epoch sent old k = (after : Rows) → GiveShards after old.tables → HaveVoted epoch after sent k
Decided false epoch sent old k = HaveGivenUp epoch sent k
