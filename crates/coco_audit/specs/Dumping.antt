-- The lines of a dump that are still to come.
use Rattle.std.specs.Prelude.{◌≡◌, ◌⊎◌, ℕ, ◌<◌, ◌≤◌, Bool, true, false, List, [], ◌∷◌, ◌++◌, flat_map, length, map, Option, None, Some, IsSome, slice_get}
use Rattle.std.specs.BTreeMap.{is_at}
use Rattle.std.specs.FinMap.{empty}
use Rattle.std.specs.List.{list_any}
use Rattle.std.specs.List.Sorted.{IsStrictlySortedBy}
use Rattle.std.specs.Option.{unwrap_or}
use Rattle.coco_types.specs.RowKey.{RowKey, key_cmp, partition_of}
use Rattle.coco_types.specs.declared.call.Done.{Done}
use Rattle.coco_types.specs.declared.value.Value.{Value}
use Rattle.coco_ast.specs.Keyed.{Rows, value_at}
use Rattle.coco_ast.specs.Tree.{Procedures}
use Rattle.coco_shard.specs.RowState.{ShardState, stable_at}
use Rattle.coco_audit.specs.Texts.{dump_done_text, dump_row_text}

-- ---- shards

abbrev pub shard_in : List ShardState → ℕ → ShardState
shard_in shards p = unwrap_or (slice_get shards p) empty

-- the stable value of a key in the shard of its partition
abbrev pub stable_in : List ShardState → RowKey → Option Value
stable_in shards k = stable_at (shard_in shards (partition_of (length shards) k)) k

-- the shards have just the values of a map
abbrev pub HaveValues : Rows → List ShardState → Type 0
HaveValues m shards = (k : RowKey) → stable_in shards k ≡ value_at m k

-- each key that has a value in one of the first n shards is among these keys
abbrev pub HasKeys : List ShardState → ℕ → List RowKey → Type 0
HasKeys shards n keys = (p : ℕ) (k : RowKey) → p < n → IsSome (stable_at (shard_in shards p) k) → list_any (is_at (key_cmp k)) keys ≡ true

-- each key that has a value in any shard is among these, and they rise
pub record AreKeys (shards : List ShardState) (keys : List RowKey) : Type 0 where
  pub all : HasKeys shards (length shards) keys
  pub rising : IsStrictlySortedBy key_cmp keys

-- ---- lines

-- the line of a key, none where it has no value
abbrev pub key_line : Procedures → RowKey → Option Value → List ℕ
key_line procs k None = []
key_line procs k (Some value) = dump_row_text procs (k, value)

-- the lines of Dones, and then those of keys by their values in the shards
abbrev pub lines_of : Procedures → List ShardState → List Done → List RowKey → List (List ℕ)
lines_of procs shards dones keys = map (dump_done_text procs) dones ++ map (λ k. key_line procs k (stable_in shards k)) keys

-- lines one behind another
abbrev pub text_of : List (List ℕ) → List ℕ
text_of = flat_map (λ line. line)

-- the first line that is to come is put behind what a buffer holds, if there is one
abbrev pub PutsLine : Bool → List (List ℕ) → List (List ℕ) → List ℕ → List ℕ → Type 0
PutsLine true before after old new = (line : List ℕ) × (before ≡ line ∷ after) × (new ≡ old ++ line)
PutsLine false before after old new = (before ≡ []) × (after ≡ []) × (new ≡ old)

-- ---- pieces

-- from how many bytes on a piece is long enough
abbrev pub piece_bytes : ℕ
piece_bytes = 65536

-- as many of the lines to come as make a piece long enough, or all of them: without the last of them it is too short
pub record IsPiece (before after : List (List ℕ)) (piece : List ℕ) : Type 0 where
  pub lines : List (List ℕ)
  pub are : before ≡ lines ++ after
  pub text : piece ≡ text_of lines
  pub short : (lines ≡ []) ⊎ ((front : List (List ℕ)) × (last : List ℕ) × (lines ≡ front ++ last ∷ []) × (length (text_of front) < piece_bytes))
  pub long : (after ≡ []) ⊎ (piece_bytes ≤ length piece)
