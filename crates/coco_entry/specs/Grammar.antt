-- How fields make an entry: one behind another, tested, listed behind their count, and all of them behind a tag.
use Rattle.std.specs.Prelude.{IfOk, ◌≡◌, ℕ, ◌-◌, ◌+◌, Bool, List, ◌++◌, length, slice_range, Option, None, Result, Ok, Err, nat_lt, ◌==◌, if◌then◌else◌}
use Rattle.coco_bytes.specs.declared.fault.FieldFault.{FieldFault}
use Rattle.coco_bytes.specs.declared.fault.FieldFault.TheVariants.{Short, Bad}
use Rattle.coco_bytes.specs.Fields.{u32_bytes}
use Rattle.coco_bytes.specs.Reads.{◌>>=◌, Read, fault_place, u8_at, u32_at}
use Rattle.coco_bytes.specs.Lists.{items_at}
use Rattle.coco_entry.specs.declared.fault.EntryFault.{EntryFault}
use Rattle.coco_entry.specs.declared.fault.EntryFault.TheVariants as faults

-- what reads a value at a place of bytes
abbrev pub Reader : Type 0 → Type 0
Reader A = List ℕ → ℕ → Read A

-- a field, and behind it one that may depend on it
abbrev pub then_by : {A B : Type 0} → Reader A → (A → Reader B) → Reader (A × B)
then_by first second from at = do
  a ← first from at
  b ← second a.0 from a.1
  Ok ((a.0, b.0), b.1)

infixr 5 ◌▸◌
abbrev pub ◌▸◌ : {A B : Type 0} → Reader A → Reader B → Reader (A × B)
first ▸ second = then_by first (λ _. second)

-- what is made of a field
abbrev pub made : {A B : Type 0} → (A → B) → Reader A → Reader B
made make read from at = do
  a ← read from at
  Ok (make a.0, a.1)

-- a field that fails the test is bad at its place
abbrev pub tested : {A : Type 0} → (A → Bool) → Reader A → Reader A
tested passes read from at = do
  a ← read from at
  if passes a.0 then Ok a else Err (Bad at)

-- as many items as the number in front of them says; each is read knowing the one before it
abbrev pub listed : {A : Type 0} → Reader ℕ → (Option A → Reader A) → Reader (List A)
listed count item from at = do
  n ← count from at
  items_at item None n.0 from n.1

-- bytes with four bytes of length in front of them
abbrev pub bytes32 : List ℕ → List ℕ
bytes32 bytes = u32_bytes (length bytes) ++ bytes

unfoldable pub bytes32_at : Reader (List ℕ)
bytes32_at from at = do
  n ← u32_at from at
  if nat_lt (length from - n.1) n.0 then Err (Short at) else Ok (slice_range from n.1 (n.1 + n.0), n.1 + n.0)

unfoldable pub tag_at : ℕ → Reader ℕ
tag_at tag = tested (λ t. t == tag) u8_at

-- what was read is all of the bytes; else the first byte that is left over is bad
unfoldable pub whole : {A : Type 0} → List ℕ → A × ℕ → Result A FieldFault
whole from read = if length from == read.1 then Ok read.0 else Err (Bad read.1)

-- all of the bytes: the tag, the fields, and nothing more
unfoldable pub tagged : {A : Type 0} → ℕ → Reader A → List ℕ → Result A FieldFault
tagged tag fields from = do
  t ← tag_at tag from 0
  entry ← fields from t.1
  whole from entry

-- the reading fails at this place
abbrev pub IsFaultAt : {A : Type 0} → ℕ → Result A FieldFault → Type 0
IsFaultAt at read = (fault : FieldFault) × (read ≡ Err fault) × (at ≡ fault_place fault)

-- what a call answered is what reading gives, unless memory ran out
abbrev pub Answers : {A : Type 0} → Result A EntryFault → Result A FieldFault → Type 0
Answers (Ok x) read = read ≡ Ok x
Answers (Err faults.NoMemory) read = Unit {0}
Answers (Err (faults.Bad at)) read = IsFaultAt at read

-- A body is read exactly: what is read is an entry and the body is its bytes, the bytes of an entry are read, and another body is bad where reading fails.
pub record ReadsExactly {A : Type 0} (body : List ℕ) (result : Result A EntryFault) (reading : Result A FieldFault) (bytes_of : A → List ℕ) (Is : A → Type 0) : Type 0 where
  pub found : IfOk result (λ x. Is x × (body ≡ bytes_of x))
  pub only : (x : A) → Is x → body ≡ bytes_of x → Answers result (Ok x)
  pub read : Answers result reading
