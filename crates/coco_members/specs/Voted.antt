-- What holds of nodes and coordinator once all nodes have voted for an epoch.
use Rattle.std.specs.Prelude.{◌≡◌, ℕ, ◌+◌, ◌<◌, List, []}
use Rattle.coco_ast.specs.Keyed.{Rows}
use Rattle.coco_chief.specs.Shown.{chief_of}
use Rattle.coco_chief.specs.declared.machine.Phase.TheVariants.{Forcing}
use Rattle.coco_finish.specs.Stopping.{AllHaveNewest}
use Rattle.coco_letters.specs.Telling.{FinishedBelow, VotesBelow}
use Rattle.coco_net.specs.declared.letter.Posted.{Posted}
use Rattle.coco_standing.specs.Standing.{TablesStand, all_behind}
use Rattle.coco_vote.specs.Taking.{AreVoting}
use Rattle.coco_members.specs.AtRest.{primaries_of, AreMembers, ShipsBelow}
use Rattle.coco_members.specs.declared.members.Members.{Members}

-- Each node has the entry of the epoch and has voted, the coordinator is to force the commit entry, and to promote all
-- shards gives this map. No word that a node has finished the epoch is told as sent.
pub record HaveVoted (epoch : ℕ) (after : Rows) (sent : List Posted) (k : Members) : Type 0 where
  pub are : AreMembers k
  pub phase : (chief_of k.chief).phase ≡ Forcing
  pub current : (chief_of k.chief).current ≡ epoch
  pub last : (chief_of k.chief).last < epoch
  pub voting : AreVoting epoch k.cores.items
  pub newest : AllHaveNewest epoch k.cores.items
  pub tables : TablesStand (primaries_of k.tables.layout) after all_behind k.tables.shards.items []
  pub ships : ShipsBelow (epoch + 1) sent
  pub votes : VotesBelow (epoch + 1) sent
  pub finished : FinishedBelow epoch sent
