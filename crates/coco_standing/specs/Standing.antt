-- How the tables of a store's nodes stand to a map: those of a node that has promoted the last committed epoch, and
-- those of one that is behind.
use Rattle.std.specs.Prelude.{◌≡◌, ◌≢◌, ℕ, ◌*◌, ◌<◌, ◌≤◌, ◌==◌, Bool, true, false, if◌then◌else◌, List, length, Option}
use Rattle.coco_types.specs.RowKey.{RowKey}
use Rattle.coco_types.specs.declared.value.Value.{Value}
use Rattle.coco_ast.specs.Keyed.{Rows, on_partition, value_at}
use Rattle.coco_copy.specs.CopyState.{CopyState, begun, promoted_at}
use Rattle.coco_entry.specs.declared.layout.Layout.{Layout}
use Rattle.coco_shard.specs.RowState.{ShardState, IsOfPartition, newest_at, stable_at}
use Rattle.coco_load.specs.Tables.{IsRing, IsShardOf, copy_at, shard_at}
use Rattle.coco_standing.specs.Changes.{PromotesCopy, PromotesShard}
use Rattle.coco_standing.specs.Places.{node_of}

-- ---- one table

-- a map has the values that one version of a shard's rows has, and each key is of the shard's partition
pub record ShardHas (version : ShardState → RowKey → Option Value) (count p : ℕ) (m : Rows) (s : ShardState) : Type 0 where
  pub values : (k : RowKey) → version s k ≡ value_at m k
  pub partition : IsOfPartition count p s

-- A shard has a map's rows and none is touched, or, where its node is behind, they are its newest values: then to
-- promote it leaves the map.
abbrev pub ShardStands : Bool → ℕ → ℕ → Rows → ShardState → Type 0
ShardStands false count p m s = IsShardOf count p m s
ShardStands true count p m s = ShardHas newest_at count p m s

-- so does a copy, in whichever epoch it is
abbrev pub CopyStands : Bool → Rows → CopyState → Type 0
CopyStands false m s = s ≡ begun s.epoch m
CopyStands true m s = (k : RowKey) → promoted_at s k ≡ value_at m k

-- ---- the tables of a node

-- the tables are as many as the layout says
pub record AreCounted (layout : Layout) (shards : List ShardState) (copies : List CopyState) : Type 0 where
  pub ring : IsRing layout
  pub shard_count : length shards ≡ layout.partitions
  pub copy_count : length copies ≡ layout.partitions * layout.copies

-- each table on the node has its partition of the map
pub record NodeStands (layout : Layout) (m : Rows) (node : ℕ) (is_behind : Bool) (shards : List ShardState) (copies : List CopyState) : Type 0 where
  pub primaries : (p : ℕ) → p < layout.partitions → node_of layout p 0 ≡ node → ShardStands is_behind layout.partitions p (on_partition layout.partitions p m) (shard_at shards p)
  pub others : (p j : ℕ) → p < layout.partitions → 1 ≤ j → j ≤ layout.copies → node_of layout p j ≡ node → CopyStands is_behind (on_partition layout.partitions p m) (copy_at layout copies p j)

-- the tables on the node are what promoting makes of those of before
pub record NodePromotes (layout : Layout) (node : ℕ) (old_shards : List ShardState) (old_copies : List CopyState) (shards : List ShardState) (copies : List CopyState) : Type 0 where
  pub primaries : (p : ℕ) → p < layout.partitions → node_of layout p 0 ≡ node → PromotesShard (shard_at old_shards p) (shard_at shards p)
  pub others : (p j : ℕ) → p < layout.partitions → 1 ≤ j → j ≤ layout.copies → node_of layout p j ≡ node → PromotesCopy (copy_at layout old_copies p j) (copy_at layout copies p j)

-- the tables on the node are those of another set
pub record NodeIsFrom (layout : Layout) (node : ℕ) (from_shards : List ShardState) (from_copies : List CopyState) (shards : List ShardState) (copies : List CopyState) : Type 0 where
  pub primaries : (p : ℕ) → p < layout.partitions → node_of layout p 0 ≡ node → shard_at shards p ≡ shard_at from_shards p
  pub others : (p j : ℕ) → p < layout.partitions → 1 ≤ j → j ≤ layout.copies → node_of layout p j ≡ node → copy_at layout copies p j ≡ copy_at layout from_copies p j

-- the tables on all other nodes are as they were
pub record OthersStay (layout : Layout) (node : ℕ) (old_shards : List ShardState) (old_copies : List CopyState) (shards : List ShardState) (copies : List CopyState) : Type 0 where
  pub primaries : (p : ℕ) → p < layout.partitions → node_of layout p 0 ≢ node → shard_at shards p ≡ shard_at old_shards p
  pub others : (p j : ℕ) → p < layout.partitions → 1 ≤ j → j ≤ layout.copies → node_of layout p j ≢ node → copy_at layout copies p j ≡ copy_at layout old_copies p j

-- ---- those of all nodes

-- each node's tables have the map, some nodes being behind
pub record TablesStand (layout : Layout) (m : Rows) (behind : ℕ → Bool) (shards : List ShardState) (copies : List CopyState) : Type 0 where
  pub counted : AreCounted layout shards copies
  pub nodes : (n : ℕ) → n < layout.nodes → NodeStands layout m n (behind n) shards copies

-- so have those of all nodes but one
abbrev pub OthersStand : Layout → Rows → ℕ → (ℕ → Bool) → List ShardState → List CopyState → Type 0
OthersStand layout m node behind shards copies = (n : ℕ) → n < layout.nodes → n ≢ node → NodeStands layout m n (behind n) shards copies

-- no node is behind, or each is, or this one isn't any more
abbrev pub none_behind : ℕ → Bool
none_behind n = false

abbrev pub all_behind : ℕ → Bool
all_behind n = true

abbrev pub caught_up : ℕ → (ℕ → Bool) → ℕ → Bool
caught_up node behind n = if n == node then false else behind n

-- the stable values of each table are the map's, whatever pends in it
pub record TablesKeep (layout : Layout) (m : Rows) (shards : List ShardState) (copies : List CopyState) : Type 0 where
  pub counted : AreCounted layout shards copies
  pub primaries : (p : ℕ) → p < layout.partitions → ShardHas stable_at layout.partitions p (on_partition layout.partitions p m) (shard_at shards p)
  pub others : (p j : ℕ) → p < layout.partitions → 1 ≤ j → j ≤ layout.copies → (copy_at layout copies p j).stable ≡ on_partition layout.partitions p m
