-- What is remembered of the entries of a base file.
use Rattle.std.specs.Prelude.{◌≡◌, ℕ, ◌-◌, Bool, true, false, nat_le, ◌==◌, if◌then◌else◌, List, [], ◌∷◌, ◌++◌, length, Option, None, Some}
use Rattle.std.specs.List.{AllByRecursion}
use Rattle.std.specs.Option.{option_map}
use Rattle.std.specs.declared.cmp.Ordering.TheVariants.{Less}
use Rattle.coco_types.specs.RowKey.{RowKey, key_cmp}
use Rattle.coco_types.specs.declared.value.Value.{Value}
use Rattle.coco_bytes.specs.Lists.{last_item}
use Rattle.coco_entry.specs.declared.base.TheConstants.{MOST_ITEMS}
use Rattle.coco_store.specs.Entries.{BaseEntry, Head, Dones, Values}
use Rattle.coco_store.specs.Rules.{Setting, base_values, kept_dones}
use Rattle.coco_rules.specs.Noting.{AreNoted}
use Rattle.coco_rules.specs.declared.base.BaseRules.{BaseRules}
use Rattle.coco_rules.specs.declared.base.LastEntry.{LastEntry}
use Rattle.coco_rules.specs.declared.base.LastEntry.TheVariants as sort

-- ---- the order of entries

abbrev pub last_of : BaseEntry → LastEntry
last_of (Head head) = sort.Head
last_of (Dones dones) = sort.Dones (length dones == MOST_ITEMS)
last_of (Values rows) = sort.Rows (length rows == MOST_ITEMS)

abbrev pub may_be_dones : Option LastEntry → Bool
may_be_dones None = false
may_be_dones (Some sort.Head) = true
may_be_dones (Some (sort.Dones is_full)) = is_full
may_be_dones (Some (sort.Rows is_full)) = false

abbrev pub may_be_rows : Option LastEntry → Bool
may_be_rows None = false
may_be_rows (Some sort.Head) = true
may_be_rows (Some (sort.Dones is_full)) = true
may_be_rows (Some (sort.Rows is_full)) = is_full

-- ---- the order of rows

-- the last row has this key, and all others have keys before it
abbrev pub EndsAtKey : List (RowKey × Value) → Option RowKey → Type 0
EndsAtKey rows None = rows ≡ []
EndsAtKey rows (Some key) = (front : List (RowKey × Value)) × (row : RowKey × Value) × (rows ≡ front ++ row ∷ []) × (row.0 ≡ key) × AllByRecursion (λ r. key_cmp r.0 key ≡ Less) front

-- ---- what the head says

-- so many less, if there are as many
abbrev pub less_by : Option ℕ → ℕ → Option ℕ
less_by None n = None
less_by (Some left) n = if nat_le n left then Some (left - n) else None

pub record AreLeft (its_floor its_dones its_rows : Option ℕ) (told_floor told_dones told_rows : Option ℕ) : Type 0 where
  pub floor : its_floor ≡ told_floor
  pub dones : its_dones ≡ told_dones
  pub rows : its_rows ≡ told_rows

-- the floor and the numbers are those of the head
abbrev pub IsToldBy : List BaseEntry → BaseRules → Type 0
IsToldBy [] rules = AreLeft rules.floor rules.dones_left rules.rows_left None None None
IsToldBy (Head head ∷ entries) rules =
    AreLeft rules.floor rules.dones_left rules.rows_left head.floor (less_by (Some head.dones) (length (kept_dones entries))) (less_by (Some head.rows) (length (base_values entries)))
IsToldBy (Dones dones ∷ entries) rules = ⊥
IsToldBy (Values rows ∷ entries) rules = ⊥

-- ---- the entries so far

pub record IsBehindBase (s : Setting) (before : List BaseEntry) (rules : BaseRules) : Type 0 where
  pub noted : AreNoted s.entry.keep (kept_dones before) rules.dones
  pub base_epoch : rules.base_epoch ≡ s.entry.layout.base_epoch
  pub last : rules.last ≡ option_map last_of (last_item before)
  pub told : IsToldBy before rules
  pub key : EndsAtKey (base_values before) rules.last_key
