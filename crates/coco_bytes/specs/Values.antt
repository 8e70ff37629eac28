-- Keys and values as fields.
use Rattle.std.specs.Prelude.{ℕ, zero, suc, ◌<◌, ◌≤◌, ◌^◌, List, [], ◌∷◌, ◌++◌, length, Option, Some, None, Ok, Err, nat_lt, if◌then◌else◌, IsUtf8, FitsSigned}
use Rattle.std.specs.Int.{w64}
use Rattle.std.specs.Str.{is_utf8}
use Rattle.coco_types.specs.Limits.{most_text_bytes}
use Rattle.coco_types.specs.declared.value.Value.{Value}
use Rattle.coco_types.specs.declared.value.Value.TheVariants.{Int, Text}
use Rattle.coco_types.specs.RowKey.{RowKey}
use Rattle.coco_bytes.specs.declared.fault.FieldFault.TheVariants.{Bad}
use Rattle.coco_bytes.specs.Fields.{u16_bytes, u64_bytes, i64_bytes, bytes16}
use Rattle.coco_bytes.specs.Reads.{◌>>=◌, Read, u8_at, u16_at, u64_at, i64_at, text16_at}

-- a table, and a row below 2 ^ 63
abbrev pub key_bytes : RowKey → List ℕ
key_bytes key = u16_bytes key.table ++ u64_bytes key.row

pub record IsKey (key : RowKey) : Type 0 where
  pub table : key.table < 2 ^ 16
  pub row : key.row < 2 ^ 63

unfoldable pub key_at : List ℕ → ℕ → Read RowKey
key_at from at = do
  table ← u16_at from at
  row ← u64_at from table.1
  if nat_lt row.0 (2 ^ 63) then Ok (record { table = table.0; row = row.0 }, row.1) else Err (Bad table.1)

-- a kind, and behind it a whole number or up to 256 bytes of a text
abbrev pub value_bytes : Option Value → List ℕ
value_bytes None = 0 ∷ []
value_bytes (Some (Int n)) = 1 ∷ i64_bytes n
value_bytes (Some (Text bytes)) = 2 ∷ bytes16 bytes

abbrev pub IsValue : Option Value → Type 0
IsValue None = Unit {0}
IsValue (Some (Int n)) = FitsSigned w64 n
IsValue (Some (Text bytes)) = (length bytes ≤ most_text_bytes) × IsUtf8 bytes

unfoldable pub text_at : List ℕ → ℕ → Read (List ℕ)
text_at from at = do
  text ← text16_at most_text_bytes from at
  if is_utf8 text.0 then Ok text else Err (Bad at)

-- a value of this kind, whose kind stands at the first place and the rest at the second
unfoldable pub value_of_kind : ℕ → List ℕ → ℕ → ℕ → Read (Option Value)
value_of_kind zero from at next = Ok (None, next)
value_of_kind (suc zero) from at next = do
  n ← i64_at from next
  Ok (Some (Int n.0), n.1)
value_of_kind (suc (suc zero)) from at next = do
  text ← text_at from next
  Ok (Some (Text text.0), text.1)
value_of_kind (suc (suc (suc kind))) from at next = Err (Bad at)

unfoldable pub value_at : List ℕ → ℕ → Read (Option Value)
value_at from at = do
  kind ← u8_at from at
  value_of_kind kind.0 from at kind.1
