-- How a shard keeps its rows, and the list of the keys of those that are touched.
use Rattle.std.specs.Prelude.{◌≡◌, ℕ, Bool, true, if◌then◌else◌, max, List, [], ◌∷◌, ◌⊎◌, map, Option, None, Some, Result, OnOk, OnErr}
use Rattle.std.specs.Option.{unwrap_or}
use Rattle.std.specs.Map.{set_value}
use Rattle.std.specs.BTreeMap.{is_at}
use Rattle.std.specs.FinMap.{from_entries, insert}
use Rattle.coco_types.specs.RowKey.{RowKey, key_cmp}
use Rattle.coco_types.specs.declared.error.NoMemory.{NoMemory}
use Rattle.coco_types.specs.declared.value.Value.{Value}
use Rattle.coco_types.specs.declared.call.AttemptId.{AttemptId}
use Rattle.coco_rows.specs.declared.Row.{Row}
use Rattle.coco_rows.specs.declared.Newest.TheVariants.{AsStable}
use Rattle.coco_rows.specs.Listing as listing
use Rattle.coco_rows.specs.Listing.{IsListing, part_of}
pub use Rattle.coco_rows.specs.Listing.{entry_of, kept_at}
use Rattle.coco_rows.specs.Versions.{newest_of, is_touched, version_of, row_kind}
use Rattle.coco_shard.specs.declared.ops.Op.{Op}
use Rattle.coco_shard.specs.declared.ops.Ask.{Ask}
use Rattle.coco_shard.specs.declared.ops.Answer.{Answer}
use Rattle.coco_shard.specs.Memory.{is_lock}
use Rattle.coco_shard.specs.RowState.{RowState, ShardState, row_at}
use Rattle.coco_shard.specs.Table.{after_ask, answer_at, answer_in, key_of, left_by, may_make_row}

abbrev pub state_of : Row → RowState
state_of row = record { newest = newest_of row; wts = row.wts; rts = row.rts; mark = row.mark; stable = row.stable }

-- the answer is the table's, and so is what becomes of the row
pub record Follows (before after : Row) (by : AttemptId) (op : Op) (answer : Answer) : Type 0 where
  pub told : answer ≡ answer_at (state_of before) by op
  pub left : state_of after ≡ unwrap_or (left_by answer by op (state_of before)) (state_of before)

-- a row that isn't touched is as the last promote or revert left it
abbrev pub IsSound : Row → Type 0
IsSound = listing.IsSound row_kind

-- what contracts see of an entry, and of all of them
abbrev pub shown : RowKey × Row → RowKey × RowState
shown e = (e.0, state_of e.1)

abbrev pub view_of : List (RowKey × Row) → ShardState
view_of es = from_entries (map shown es)

-- The list has the key of each touched row, once, and room for the key of every row.
abbrev pub IsWhole : List (RowKey × Row) → List RowKey → ℕ → Type 0
IsWhole = IsListing row_kind

-- the row, noted as touched
abbrev pub noted : Bool → Row → Row
noted touched row = record row { newest = if touched then AsStable else row.newest }

-- the entries after the row of a key is set, which is touched where it was before
pub record SetsRow (old new : List (RowKey × Row)) (k : RowKey) (row : Row) : Type 0 where
  pub before : Row
  pub was : kept_at old k ≡ Some before
  pub put : new ≡ set_value (is_at (key_cmp k)) old (noted (is_touched before) row)

-- what is left of a row at an epoch's end: nothing, where it has no value
abbrev pub settled : Bool → Option Row → Option Row
settled = listing.settled row_kind

-- the keys that have a value in one of the versions, each with it
abbrev pub values_in : Bool → List (RowKey × Row) → List (RowKey × Value)
values_in newest = part_of (version_of newest)

-- a key's read time; a missing row has none
abbrev pub rts_of : Option Row → ℕ
rts_of None = 0
rts_of (Some row) = row.rts

-- the greatest read time of these keys
abbrev pub most_rts : List (RowKey × Row) → List RowKey → ℕ
most_rts es [] = 0
most_rts es (k ∷ ks) = max (rts_of (kept_at es k)) (most_rts es ks)

-- What becomes of the rows where an ask is answered: answer and rows are the table's. Out of memory nothing has
-- changed, the key has no row or is to be locked, and the ask may make a row.
pub record Acts {T : Type 0} (es fs : List (RowKey × Row)) (ask : Ask) (given : Answer) (result : Result T NoMemory) : Type 0 where
  pub answer : OnOk result (given ≡ answer_in (view_of es) ask)
  pub state : OnOk result (view_of fs ≡ after_ask (view_of es) ask)
  pub err : OnErr result (fs ≡ es)
  pub missing : OnErr result ((kept_at es (key_of ask.op) ≡ None) ⊎ (is_lock ask.op ≡ true))
  pub makes : OnErr result (may_make_row ask.op ≡ true)

-- What becomes of the rows where the row of a key is changed, or made where it is missing. Out of memory nothing has
-- changed.
pub record Changes {T : Type 0} (es fs : List (RowKey × Row)) (key : RowKey) (change : RowState → RowState) (result : Result T NoMemory) : Type 0 where
  pub ok : OnOk result (view_of fs ≡ insert (view_of es) key (change (row_at (view_of es) key)))
  pub err : OnErr result (fs ≡ es)
