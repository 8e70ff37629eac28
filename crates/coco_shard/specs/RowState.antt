-- What contracts see of a shard: a finite map from the keys that have a row to what each row says.
use Rattle.std.specs.Prelude.{◌≡◌, ℕ, ◌≤◌, Bool, if◌then◌else◌, List, Option, None, Some, IsSome}
use Rattle.std.specs.List.Sorted.{IsStrictlySortedBy}
use Rattle.std.specs.Map.{keys_of, lookup}
use Rattle.std.specs.BTreeMap.{is_at}
use Rattle.std.specs.Option.{unwrap_or, option_map}
use Rattle.std.specs.FinMap.{FinMap, get, insert, remove}
use Rattle.coco_types.specs.RowKey.{RowKey, key_cmp, partition_of}
use Rattle.coco_types.specs.declared.value.Value.{Value}
use Rattle.coco_types.specs.declared.call.AttemptId.{AttemptId}

-- a row's newest value, its times in this epoch, the attempt whose mark stands on it, and its stable value
pub record RowState : Type 0 where
  pub newest : Option Value
  pub wts : ℕ
  pub rts : ℕ
  pub mark : Option AttemptId
  pub stable : Option Value

abbrev pub ShardState : Type 0
ShardState = FinMap key_cmp RowState

-- a row between two epochs: one version, both times 0, and no mark
abbrev pub resting : Option Value → RowState
resting value = record { newest = value; wts = 0; rts = 0; mark = None; stable = value }

-- what a key's row says; a missing row says what one without a value does
abbrev pub row_at : ShardState → RowKey → RowState
row_at s k = unwrap_or (get s k) (resting None)

-- the shard with this row under the key, where there is one
abbrev pub with_row : ShardState → RowKey → Option RowState → ShardState
with_row s k None = s
with_row s k (Some row) = insert s k row

-- the newest and the stable value of a key
abbrev pub newest_at : ShardState → RowKey → Option Value
newest_at s k = (row_at s k).newest

abbrev pub stable_at : ShardState → RowKey → Option Value
stable_at s k = (row_at s k).stable

-- a row for each value of the opening map, none of them touched, and no other row
abbrev pub Holds : (RowKey → Option Value) → ShardState → Type 0
Holds opening s = (k : RowKey) → get s k ≡ option_map (λ value. resting (Some value)) (opening k)

-- no row is touched
abbrev pub IsSettled : ShardState → Type 0
IsSettled s = Holds (stable_at s) s

-- the shard with this stable value under the key, or without its row
abbrev pub loaded : ShardState → RowKey → Option Value → ShardState
loaded s k None = remove s k
loaded s k (Some value) = insert s k (resting (Some value))

-- a key's stable value, or its newest
abbrev pub value_at : Bool → ShardState → RowKey → Option Value
value_at stable s k = if stable then stable_at s k else newest_at s k

-- all keys that have a value, rising, each with it
pub record ListsRows (value_of : RowKey → Option Value) (rows : List (RowKey × Value)) : Type 0 where
  pub rising : IsStrictlySortedBy key_cmp (keys_of rows)
  pub each : (k : RowKey) → lookup (is_at (key_cmp k)) rows ≡ value_of k

-- the greatest read time of any key's row
pub record IsGreatestTime (s : ShardState) (time : ℕ) : Type 0 where
  pub bounds : (k : RowKey) → (row_at s k).rts ≤ time
  pub at : RowKey
  pub attained : (row_at s at).rts ≡ time

-- every key that has a row is of this partition of so many
abbrev pub IsOfPartition : ℕ → ℕ → ShardState → Type 0
IsOfPartition count partition s = (k : RowKey) → IsSome (get s k) → partition_of count k ≡ partition
