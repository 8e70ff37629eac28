-- Nodes that lost their tables, which are read anew from their files.
use Rattle.std.specs.Prelude.{◌≡◌, ◌⊎◌, ℕ, ◌<◌, ◌≤◌, Bool, true, false, List, length, Option, Some, slice_index, slice_set}
use Rattle.std.specs.List.{slice_get}
use Rattle.coco_append.specs.Gaining.{IsNodeLog, Stands}
use Rattle.coco_chief.specs.Chief.{Chief, has}
use Rattle.coco_chief.specs.Shown.{chief_of}
use Rattle.coco_copy.specs.CopyState.{CopyState}
use Rattle.coco_entry.specs.declared.commit.Commit.{Commit}
use Rattle.coco_entry.specs.declared.layout.Layout.{Layout}
use Rattle.coco_finish.specs.Finishing.{is_behind, AreWhole}
use Rattle.coco_finish.specs.declared.tables.NodeTables.{NodeTables}
use Rattle.coco_host.specs.Files.{Files}
use Rattle.coco_letters.specs.declared.voter.Voter.{Voter}
use Rattle.coco_load.specs.Tables.{copy_at, shard_at, Maps}
use Rattle.coco_log.specs.LogState.{IsFresh, LogState}
use Rattle.coco_members.specs.declared.members.Members.{Members}
use Rattle.coco_shard.specs.RowState.{ShardState}
use Rattle.coco_standing.specs.Places.{node_of}
use Rattle.coco_standing.specs.Standing.{CopyStands, NodeIsFrom, NodeStands, OthersStay, ShardStands}
use Rattle.coco_store.specs.Contents.{Contents, map_in}
use Rattle.coco_store.specs.Entries.{prepared_kind}
use Rattle.coco_store.specs.Refusals.{IsFirst, IsNodeRefused}
use Rattle.coco_store.specs.Rules.{commit_epochs, Setting}

-- ---- tables of several maps

-- each table on a node stands at a map of its own
pub record NodeHas (layout : Layout) (maps : Maps) (node : ℕ) (is_behind : Bool) (shards : List ShardState) (copies : List CopyState) : Type 0 where
  pub primaries : (p : ℕ) → p < layout.partitions → node_of layout p 0 ≡ node → ShardStands is_behind layout.partitions p (maps p 0) (shard_at shards p)
  pub others : (p j : ℕ) → p < layout.partitions → 1 ≤ j → j ≤ layout.copies → node_of layout p j ≡ node → CopyStands is_behind (maps p j) (copy_at layout copies p j)

-- So does each table of all nodes, some of which are behind: `HaveMap` without its saying that the tables of a partition hold the same.
-- A node that is read anew on a host that doesn't tell its files may hold anything.
pub record HaveMaps (maps : Maps) (t : NodeTables) : Type 0 where
  pub whole : AreWhole t
  pub nodes : (n : ℕ) → n < t.layout.nodes → NodeHas t.layout maps n (is_behind t.behind.items n) t.shards.items t.copies.items

-- ---- a node

-- A node's tables and its log are those that were read from its file, and it isn't behind any more. Nothing changes of the others.
pub record ReadsAnew (node : ℕ) (voter : Voter) (t : NodeTables) (voter_new : Voter) (t_new : NodeTables) : Type 0 where
  pub layout : t_new.layout ≡ t.layout
  pub whole : AreWhole t_new
  pub maps : Maps
  pub tables : NodeHas t.layout maps node false t_new.shards.items t_new.copies.items
  pub others : OthersStay t.layout node t.shards.items t.copies.items t_new.shards.items t_new.copies.items
  pub behind : t_new.behind.items ≡ slice_set t.behind.items node false
  pub fresh : IsFresh voter_new.log (slice_index t.layout.node_files node) prepared_kind
  pub voter_is : voter_new ≡ record voter { log = voter_new.log; is_lost = false }

-- so it is where it lost its tables, and otherwise, or where the file wasn't read, nothing changes
abbrev pub ReadsOne : ℕ → Voter → NodeTables → Voter → NodeTables → Type 0
ReadsOne node voter t voter_new t_new = ((voter_new ≡ voter) × (t_new ≡ t)) ⊎ ((voter.is_lost ≡ true) × ReadsAnew node voter t voter_new t_new)

-- nothing changes of a node
pub record Stays (n : ℕ) (voters : List Voter) (t : NodeTables) (voters_new : List Voter) (t_new : NodeTables) : Type 0 where
  pub voter : slice_get voters_new n ≡ slice_get voters n
  pub tables : NodeIsFrom t.layout n t.shards.items t.copies.items t_new.shards.items t_new.copies.items
  pub behind : is_behind t_new.behind.items n ≡ is_behind t.behind.items n

-- it had lost its tables, and was read anew
pub record IsAnew (n : ℕ) (voters : List Voter) (t : NodeTables) (voters_new : List Voter) (t_new : NodeTables) : Type 0 where
  pub voter : Voter
  pub there : slice_get voters n ≡ Some voter
  pub lost : voter.is_lost ≡ true
  pub log : LogState
  pub in_file : log.file ≡ slice_index t.layout.node_files n
  pub of_kind : log.kind ≡ prepared_kind
  pub unspent : log.spent ≡ false
  pub voter_is : slice_get voters_new n ≡ Some (record voter { log = log; is_lost = false })
  pub maps : Maps
  pub tables : NodeHas t.layout maps n false t_new.shards.items t_new.copies.items
  pub behind : is_behind t_new.behind.items n ≡ false

-- ---- all nodes

-- so it is with each node
pub record ReadsLost (voters : List Voter) (t : NodeTables) (voters_new : List Voter) (t_new : NodeTables) : Type 0 where
  pub layout : t_new.layout ≡ t.layout
  pub voter_count : length voters_new ≡ length voters
  pub mark_count : length t_new.behind.items ≡ length t.behind.items
  pub whole : AreWhole t → AreWhole t_new
  pub nodes : (n : ℕ) → Stays n voters t voters_new t_new ⊎ IsAnew n voters t voters_new t_new

-- each node's log is in its file of the layout
abbrev pub AreInFiles : Layout → List Voter → Type 0
AreInFiles layout voters = (n : ℕ) (voter : Voter) → slice_get voters n ≡ Some voter → voter.log.file ≡ slice_index layout.node_files n

-- the layout names a file for each node, and the committed epochs are behind its base
pub record CanBeRead (k : Members) : Type 0 where
  pub files : length k.tables.layout.node_files ≡ k.tables.layout.nodes
  pub above : (e : ℕ) → (chief_of k.chief).committed e ≡ true → k.tables.layout.base_epoch < e

-- this is the file of a node that lost its tables
pub record IsLostFile (layout : Layout) (voters : List Voter) (file : ℕ) : Type 0 where
  pub node : ℕ
  pub voter : Voter
  pub there : slice_get voters node ≡ Some voter
  pub lost : voter.is_lost ≡ true
  pub is : file ≡ slice_index layout.node_files node

-- it is refused, first at this place, by what is known of the layout and of the commits
abbrev pub IsLostRefused : Layout → List Voter → Setting → List Commit → ℕ → List ℕ → ℕ → Type 0
IsLostRefused layout voters s commits file bytes at = (lost : IsLostFile layout voters file) × IsFirst (IsNodeRefused s commits lost.node bytes) at

-- ---- files

-- the coordinator's core knows just these epochs as committed
abbrev pub KnowsEpochs : List ℕ → Chief → Type 0
KnowsEpochs epochs chief = (e : ℕ) → chief.committed e ≡ has epochs e

-- those of contents
abbrev pub KnowsCommitted : Contents → Chief → Type 0
KnowsCommitted c = KnowsEpochs (commit_epochs c.commits)

-- a node has its log of contents, and its tables stand at their map
pub record IsOf (c : Contents) (n : ℕ) (voter : Voter) (t : NodeTables) : Type 0 where
  pub log : IsNodeLog c n voter.log
  pub tables : NodeStands t.layout (map_in c) n (is_behind t.behind.items n) t.shards.items t.copies.items

-- so does each that isn't lost
abbrev pub AreOf : Contents → List Voter → NodeTables → Type 0
AreOf c voters t = (n : ℕ) (voter : Voter) → slice_get voters n ≡ Some voter → voter.is_lost ≡ false → IsOf c n voter t

-- each node's log stands in its file
abbrev pub AllStand : List Voter → Option Files → (Files → Type 0) → Type 0
AllStand voters reads may_leave = (n : ℕ) (voter : Voter) → slice_get voters n ≡ Some voter → Stands voter.log reads may_leave
