-- What holds of a store's tables before an epoch, and behind one.
use Rattle.std.specs.Prelude.{◌≡◌, ◌≢◌, ℕ, ◌<◌, ◌≤◌, Bool, List, None}
use Rattle.std.specs.FinMap.{get}
use Rattle.coco_types.specs.RowKey.{RowKey, partition_of}
use Rattle.coco_types.specs.declared.call.Done.{Done}
use Rattle.coco_types.specs.declared.call.Piece.{Piece}
use Rattle.coco_types.specs.declared.call.Request.{Request}
use Rattle.coco_ast.specs.History.{rows_after}
use Rattle.coco_ast.specs.Keyed.{Rows, on_partition}
use Rattle.coco_ast.specs.Tree.{Procedures}
use Rattle.coco_copy.specs.CopyState.{CopyState}
use Rattle.coco_entry.specs.declared.layout.Layout.{Layout}
use Rattle.coco_tail.specs.SerialEpoch.{IsSerialEpoch}
use Rattle.coco_tail.specs.Shards.{AreOfPartitions, AreSettled}
use Rattle.coco_tail.specs.Shards as epochs
use Rattle.coco_load.specs.Tables as loads
use Rattle.coco_load.specs.Tables.{copy_at}
use Rattle.coco_append.specs.LastWrites.{last_stamp}
use Rattle.coco_shard.specs.RowState.{ShardState}
use Rattle.coco_standing.specs.Standing.{AreCounted, TablesKeep, TablesStand, all_behind, none_behind}

-- ---- at rest

abbrev pub SettledHold : Type 0
SettledHold = (shards : List ShardState) → AreOfPartitions shards → AreSettled shards → (m : Rows) × epochs.HoldMap m shards

-- tables that were loaded with a map stand at it
abbrev pub LoadedStand : Type 0
LoadedStand = (layout : Layout) (m : Rows) (shards : List ShardState) (copies : List CopyState) → loads.HoldMap layout m shards copies → TablesStand layout m none_behind shards copies

-- where no node is behind, the shards hold the map together
abbrev pub AtRestShards : Type 0
AtRestShards = (layout : Layout) (m : Rows) (shards : List ShardState) (copies : List CopyState) → TablesStand layout m none_behind shards copies → epochs.HoldMap m shards

-- and to revert the tables would leave them at it
abbrev pub AtRestKeep : Type 0
AtRestKeep = (layout : Layout) (m : Rows) (shards : List ShardState) (copies : List CopyState) → TablesStand layout m none_behind shards copies → TablesKeep layout m shards copies

-- whether a number is behind that no node has says nothing
abbrev pub NodesCount : Type 0
NodesCount = (layout : Layout) (m : Rows) (behind other : ℕ → Bool) (shards : List ShardState) (copies : List CopyState)
    → ((n : ℕ) → n < layout.nodes → behind n ≡ other n) → TablesStand layout m behind shards copies → TablesStand layout m other shards copies

-- ---- behind an epoch

-- In each copy the last write of each key of its partition pends, over the map of before, and for no other key
-- anything does.
pub record PendLastWrites (layout : Layout) (m : Rows) (parts : List Piece) (copies : List CopyState) : Type 0 where
  pub stable : (p j : ℕ) → p < layout.partitions → 1 ≤ j → j ≤ layout.copies → (copy_at layout copies p j).stable ≡ on_partition layout.partitions p m
  pub last : (p j : ℕ) → p < layout.partitions → 1 ≤ j → j ≤ layout.copies → (k : RowKey) → partition_of layout.partitions k ≡ p → get (copy_at layout copies p j).pending k ≡ last_stamp k parts
  pub elsewhere : (p j : ℕ) → p < layout.partitions → 1 ≤ j → j ≤ layout.copies → (k : RowKey) → partition_of layout.partitions k ≢ p → get (copy_at layout copies p j).pending k ≡ None

-- what a run of an epoch leaves gives the map after the epoch where it is promoted
abbrev pub PendingStands : Type 0
PendingStands = (layout : Layout) (ps : Procedures) (requests : List Request) (epoch : ℕ) (m : Rows) (shards : List ShardState) (copies : List CopyState) (dones : List Done) (parts : List Piece)
    → AreCounted layout shards copies → IsSerialEpoch ps requests epoch m shards dones parts → PendLastWrites layout m parts copies
    → TablesStand layout (rows_after ps m dones) all_behind shards copies

-- and that of before where it is reverted
abbrev pub PendingKeeps : Type 0
PendingKeeps = (layout : Layout) (ps : Procedures) (requests : List Request) (epoch : ℕ) (m : Rows) (shards : List ShardState) (copies : List CopyState) (dones : List Done) (parts : List Piece)
    → AreCounted layout shards copies → IsSerialEpoch ps requests epoch m shards dones parts → PendLastWrites layout m parts copies
    → TablesKeep layout m shards copies
