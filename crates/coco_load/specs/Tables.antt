-- What the tables of a store's partitions hold: for each partition a shard, and a copy on each of the nodes that follow its primary round the ring.
use Rattle.std.specs.Prelude.{◌≡◌, ℕ, ◌+◌, ◌-◌, ◌*◌, ◌<◌, ◌≤◌, List, length, slice_index_or, IsSome}
use Rattle.std.specs.FinMap.{empty}
use Rattle.coco_types.specs.RowKey.{RowKey, partition_of}
use Rattle.coco_ast.specs.Keyed.{Rows, on_partition, value_at}
use Rattle.coco_copy.specs.CopyState.{CopyState, begun}
use Rattle.coco_entry.specs.declared.layout.Layout.{Layout}
use Rattle.coco_shard.specs.RowState.{ShardState, Holds, IsOfPartition, IsSettled}

-- there is a partition, and each copy of one is on a node of its own
pub record IsRing (layout : Layout) : Type 0 where
  pub some : 0 < layout.partitions
  pub around : layout.copies < layout.nodes

-- ---- places

-- shard p is of partition p
abbrev pub shard_at : List ShardState → ℕ → ShardState
shard_at shards p = slice_index_or shards p empty

-- copy j of partition p is on the j-th node behind its primary; the first copy is copy 1
abbrev pub copy_at : Layout → List CopyState → ℕ → ℕ → CopyState
copy_at layout copies p j = slice_index_or copies (p * layout.copies + j - 1) (begun 0 empty)

-- there is a table for each partition and each of its copies, and no row is touched
pub record AreTables (layout : Layout) (shards : List ShardState) (copies : List CopyState) : Type 0 where
  pub ring : IsRing layout
  pub shard_count : length shards ≡ layout.partitions
  pub copy_count : length copies ≡ layout.partitions * layout.copies
  pub settled : (p : ℕ) → IsSettled (shard_at shards p)

-- ---- rows

-- the shard of one of so many partitions holds a map: its stable values are the map's, no row is touched, and each key is of the partition
pub record IsShardOf (count p : ℕ) (m : Rows) (s : ShardState) : Type 0 where
  pub holds : Holds (value_at m) s
  pub partition : IsOfPartition count p s

-- so does a copy, in which no epoch is begun
pub record IsCopyOf (count p : ℕ) (m : Rows) (s : CopyState) : Type 0 where
  pub holds : s ≡ begun 0 m
  pub partition : (k : RowKey) → IsSome (value_at m k) → partition_of count k ≡ p

-- a map for each partition and each of its tables: 0 for the shard, and j for copy j
abbrev pub Maps : Type 0
Maps = ℕ → ℕ → Rows

-- each table holds its map
pub record HoldMaps (layout : Layout) (maps : Maps) (shards : List ShardState) (copies : List CopyState) : Type 0 where
  pub tables : AreTables layout shards copies
  pub primaries : (p : ℕ) → p < layout.partitions → IsShardOf layout.partitions p (maps p 0) (shard_at shards p)
  pub others : (p j : ℕ) → p < layout.partitions → 1 ≤ j → j ≤ layout.copies → IsCopyOf layout.partitions p (maps p j) (copy_at layout copies p j)

-- each table holds its partition of one map
abbrev pub HoldMap : Layout → Rows → List ShardState → List CopyState → Type 0
HoldMap layout m = HoldMaps layout (λ p j. on_partition layout.partitions p m)
