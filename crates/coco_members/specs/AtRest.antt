-- What holds of nodes and coordinator between two epochs.
use Rattle.std.specs.Prelude.{◌≡◌, ◌≢◌, ℕ, ◌<◌, ◌≤◌, false, List, [], Some, length}
use Rattle.std.specs.List.{slice_get}
use Rattle.coco_ast.specs.Keyed.{Rows}
use Rattle.coco_chief.specs.Shown.{chief_of}
use Rattle.coco_chief.specs.declared.machine.Phase.TheVariants.{Rest}
use Rattle.coco_finish.specs.Exchanges.{AreInStep}
use Rattle.coco_entry.specs.declared.layout.Layout.{Layout}
use Rattle.coco_finish.specs.Finishing.{is_behind, AllCanFinish, AreWhole}
use Rattle.coco_finish.specs.declared.tables.NodeTables.{NodeTables}
use Rattle.coco_letters.specs.Telling.{FinishedBelow, VotesBelow}
use Rattle.coco_letters.specs.Worlds.{Scene}
use Rattle.coco_letters.specs.declared.voter.Voter.{Voter}
use Rattle.coco_net.specs.declared.letter.Posted.{Posted}
use Rattle.coco_ship.specs.Letters.{AreOther}
use Rattle.coco_standing.specs.Standing.{TablesStand}
use Rattle.coco_vote.specs.Beginning.{AreNew}
use Rattle.coco_vote.specs.Taking.{AreApart}
use Rattle.coco_members.specs.declared.members.Members.{Members}

-- the scene of nodes and coordinator with the letters that a net tells as sent
abbrev pub scene_of : Members → List Posted → Scene
scene_of k sent = record { cores = k.cores.items; chief = chief_of k.chief; sent = sent }

-- as many as the layout says, from 1 to 8, each with a log in a file of its own; their tables are whole
pub record AreMembers (k : Members) : Type 0 where
  pub some : 0 < length k.cores.items
  pub few : length k.cores.items ≤ 8
  pub layout : k.tables.layout.nodes ≡ length k.cores.items
  pub chief : (chief_of k.chief).nodes ≡ length k.cores.items
  pub voters : length k.voters.items ≡ length k.cores.items
  pub behind : length k.tables.behind.items ≡ length k.cores.items
  pub whole : AreWhole k.tables
  pub apart : AreApart k.voters.items
  pub chief_apart : (n : ℕ) (voter : Voter) → slice_get k.voters.items n ≡ Some voter → voter.log.file ≢ k.log.file

-- no node has lost its tables
abbrev pub NoneLost : List Voter → Type 0
NoneLost voters = (n : ℕ) (voter : Voter) → slice_get voters n ≡ Some voter → voter.is_lost ≡ false

-- no node's tables have yet to be promoted
abbrev pub NoneBehind : NodeTables → Type 0
NoneBehind t = (n : ℕ) → is_behind t.behind.items n ≡ false

-- a layout without its copies
abbrev pub primaries_of : Layout → Layout
primaries_of layout = record layout { copies = 0 }

-- the shards have a map, where those of nodes that are behind promote theirs, whatever the copies have
abbrev pub ShardsHaveMap : Rows → NodeTables → Type 0
ShardsHaveMap m t = TablesStand (primaries_of t.layout) m (is_behind t.behind.items) t.shards.items []

-- no letter of the ship phase of an epoch from this one on is told as sent
abbrev pub ShipsBelow : ℕ → List Posted → Type 0
ShipsBelow next sent = (e : ℕ) → next ≤ e → AreOther e sent

-- nothing of an epoch from this one on is told as sent
pub record LettersBelow (next : ℕ) (sent : List Posted) : Type 0 where
  pub ships : ShipsBelow next sent
  pub votes : VotesBelow next sent
  pub finished : FinishedBelow next sent

-- Between two epochs of which the next has this number, on every host: no epoch is voted on, all that was begun, prepared
-- or committed is below it, each node can finish what was committed last, cores, letters and tables are in step, and
-- the shards have a map, where those of nodes that are behind promote theirs.
pub record AreAtRest (next : ℕ) (sent : List Posted) (k : Members) : Type 0 where
  pub are : AreMembers k
  pub phase : (chief_of k.chief).phase ≡ Rest
  pub begun : (chief_of k.chief).current < next
  pub committed : (chief_of k.chief).last < next
  pub new : AreNew next k.cores.items
  pub can : AllCanFinish (chief_of k.chief).last k.cores.items
  pub in_step : AreInStep (chief_of k.chief).last k.cores.items (chief_of k.chief) sent k.tables.behind.items
  pub map : (m : Rows) × ShardsHaveMap m k.tables
  pub letters : LettersBelow next sent
