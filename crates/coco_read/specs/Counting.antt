-- Rules for the tests: bodies of one byte that count up from 0, so many at least.
use Rattle.std.specs.Prelude.{◌≡◌, ◌≢◌, ℕ, ◌<◌, ◌^◌, List, [], ◌∷◌, length, Result, Ok, Err}
use Rattle.coco_bytes.specs.declared.fault.FieldFault.{FieldFault}
use Rattle.coco_bytes.specs.declared.fault.FieldFault.TheVariants.{Short, Bad}
use Rattle.coco_read.specs.EntryRules.{EntryRules}

abbrev pub byte_in : List ℕ → Result ℕ FieldFault
byte_in [] = Err (Short 0)
byte_in (byte ∷ []) = Ok byte
byte_in (byte ∷ (other ∷ rest)) = Err (Bad 1)

abbrev pub counting : ℕ → EntryRules ℕ
counting wanted = record {
  bytes_of = λ byte. byte ∷ [];
  Is = λ byte. byte < 2 ^ 8;
  read = λ before. byte_in;
  Breaks = λ before byte at. (at ≡ 0) × (byte ≢ length before);
  Lacks = λ entries. length entries < wanted;
}
