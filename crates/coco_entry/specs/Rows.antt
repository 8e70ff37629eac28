-- The entry that a node prepares: an epoch and the rows written in it behind their count, rising by key.
use Rattle.std.specs.Prelude.{◌≡◌, ℕ, ◌<◌, ◌^◌, Bool, true, List, ◌∷◌, ◌++◌, length, Option, Some, None, Result}
use Rattle.std.specs.Option.{option_map}
use Rattle.std.specs.Ordering.{is_lt}
use Rattle.std.specs.declared.cmp.Ordering.TheVariants.{Less}
use Rattle.coco_types.specs.RowKey.{RowKey, key_cmp}
use Rattle.coco_bytes.specs.declared.fault.FieldFault.{FieldFault}
use Rattle.coco_bytes.specs.Fields.{u64_bytes}
use Rattle.coco_bytes.specs.Reads.{u32_at, u64_at}
use Rattle.coco_bytes.specs.Lists.{counted, FitInTurn}
use Rattle.coco_bytes.specs.Values.{key_bytes, IsKey, key_at, value_bytes, IsValue, value_at}
use Rattle.coco_entry.specs.declared.prepared.Row.{Row}
use Rattle.coco_entry.specs.declared.prepared.Prepared.{Prepared}
use Rattle.coco_entry.specs.Grammar.{Reader, ◌▸◌, made, tested, listed, tagged}

-- a key is above the one before it
abbrev pub KeyRises : Option RowKey → RowKey → Type 0
KeyRises None key = Unit {0}
KeyRises (Some before) key = key_cmp before key ≡ Less

abbrev pub key_rises : Option RowKey → RowKey → Bool
key_rises None key = true
key_rises (Some before) key = is_lt (key_cmp before key)

-- the order is judged once the key is read
unfoldable pub rising_key_at : Option RowKey → Reader RowKey
rising_key_at before = tested (key_rises before) key_at

abbrev pub row_bytes : Row → List ℕ
row_bytes row = key_bytes row.key ++ (u64_bytes row.time ++ value_bytes row.value)

-- rows that rise by key
abbrev pub RowRises : Option Row → Row → Type 0
RowRises before row = KeyRises (option_map (λ r. r.key) before) row.key

pub record IsRow (row : Row) : Type 0 where
  pub key : IsKey row.key
  pub time : row.time < 2 ^ 64
  pub value : IsValue row.value

unfoldable pub row_at : Option RowKey → Reader Row
row_at before = made (λ r. record { key = r.0; time = r.1.0; value = r.1.1 }) (rising_key_at before ▸ u64_at ▸ value_at)

abbrev pub prepared_bytes : Prepared → List ℕ
prepared_bytes prepared = 3 ∷ (u64_bytes prepared.epoch ++ counted row_bytes prepared.rows)

pub record IsPrepared (prepared : Prepared) : Type 0 where
  pub epoch : prepared.epoch < 2 ^ 64
  pub count : length prepared.rows < 2 ^ 32
  pub rows : FitInTurn (λ before row. RowRises before row × IsRow row) None prepared.rows

unfoldable pub prepared_at : Reader Prepared
prepared_at = made (λ p. record { epoch = p.0; rows = p.1 }) (u64_at ▸ listed u32_at (λ before. row_at (option_map (λ r. r.key) before)))

abbrev pub prepared_in : List ℕ → Result Prepared FieldFault
prepared_in = tagged 3 prepared_at
