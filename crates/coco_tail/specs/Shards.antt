-- What an epoch sees of its shards together: of so many shards, the one at place p has the rows of partition p.
use Rattle.std.specs.Prelude.{◌≡◌, ℕ, ◌≤◌, List, length, slice_set, Option, None}
use Rattle.std.specs.List.{slice_get}
use Rattle.std.specs.Option.{unwrap_or}
use Rattle.std.specs.FinMap.{empty, insert}
use Rattle.coco_types.specs.RowKey.{RowKey, partition_of}
use Rattle.coco_types.specs.declared.value.Value.{Value}
use Rattle.coco_ast.specs.Keyed.{Rows, value_at}
use Rattle.coco_shard.specs.RowState.{RowState, ShardState, row_at, newest_at, stable_at, Holds, IsSettled, IsOfPartition}

-- ---- a key's row

abbrev pub shard_at : List ShardState → ℕ → ShardState
shard_at shards p = unwrap_or (slice_get shards p) empty

-- the shard of a key's partition
abbrev pub shard_of : List ShardState → RowKey → ShardState
shard_of shards k = shard_at shards (partition_of (length shards) k)

abbrev pub row_in : List ShardState → RowKey → RowState
row_in shards k = row_at (shard_of shards k) k

-- the newest and the stable value of a key
abbrev pub newest_in : List ShardState → RowKey → Option Value
newest_in shards k = newest_at (shard_of shards k) k

abbrev pub stable_in : List ShardState → RowKey → Option Value
stable_in shards k = stable_at (shard_of shards k) k

-- the shards with this row under the key
abbrev pub with_row_in : List ShardState → RowKey → RowState → List ShardState
with_row_in shards k row = slice_set shards (partition_of (length shards) k) (insert (shard_of shards k) k row)

-- ---- all of them

-- every key that has a row in a shard is of the shard's partition
abbrev pub AreOfPartitions : List ShardState → Type 0
AreOfPartitions shards = (p : ℕ) → IsOfPartition (length shards) p (shard_at shards p)

-- no row is touched
abbrev pub AreSettled : List ShardState → Type 0
AreSettled shards = (p : ℕ) → IsSettled (shard_at shards p)

-- the map has the newest values, or the stable ones
abbrev pub HaveNewest : Rows → List ShardState → Type 0
HaveNewest m shards = (k : RowKey) → newest_in shards k ≡ value_at m k

abbrev pub HaveStable : Rows → List ShardState → Type 0
HaveStable m shards = (k : RowKey) → stable_in shards k ≡ value_at m k

-- between two epochs: each shard has its partition of this map, and nothing is touched
pub record HoldMap (m : Rows) (shards : List ShardState) : Type 0 where
  pub partitions : AreOfPartitions shards
  pub settled : AreSettled shards
  pub values : HaveStable m shards

-- no mark stands, and no row's read time is above this one
pub record AreQuietAfter (time : ℕ) (shards : List ShardState) : Type 0 where
  pub unmarked : (k : RowKey) → (row_in shards k).mark ≡ None
  pub until : (k : RowKey) → (row_in shards k).rts ≤ time

-- ---- from one moment to another

-- each shard has its partition and its stable values, so that `revert` of each gives back what the epoch began with
pub record KeepStable (old new : List ShardState) : Type 0 where
  pub count : length new ≡ length old
  pub stable : (p : ℕ) (k : RowKey) → stable_at (shard_at new p) k ≡ stable_at (shard_at old p) k
  pub partitions : AreOfPartitions new

-- each shard is settled on its newest values, or on its stable ones
pub record SettleOn (version : ShardState → RowKey → Option Value) (old new : List ShardState) : Type 0 where
  pub count : length new ≡ length old
  pub each : (p : ℕ) → Holds (version (shard_at old p)) (shard_at new p)
