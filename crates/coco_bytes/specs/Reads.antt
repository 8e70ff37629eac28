-- What reading a field at a place gives: its value with the place behind it, or the fault there.
use Rattle.std.specs.Prelude.{◌≡◌, ℕ, ℤ, ◌+◌, ◌-◌, Bool, List, length, drop, slice_index, slice_range, Result, Ok, Err, nat_lt, ◌==◌, if◌then◌else◌}
use Rattle.std.specs.Int.{Width, w16, w32, w64, byte_len, from_be_bytes, cast_signed}
use Rattle.coco_bytes.specs.declared.fault.FieldFault.{FieldFault}
use Rattle.coco_bytes.specs.declared.fault.FieldFault.TheVariants.{Short, Bad}
use Rattle.coco_bytes.specs.Fields.{Stands, AreBytes}

abbrev pub Read : Type 0 → Type 0
Read A = Result (A × ℕ) FieldFault

-- one step after another, as long as none fails
infixl 10 ◌>>=◌
abbrev pub ◌>>=◌ : {A B E : Type 0} → Result A E → (A → Result B E) → Result B E
(Ok x) >>= f = f x
(Err e) >>= f = Err e

unfoldable pub u8_at : List ℕ → ℕ → Read ℕ
u8_at from at = if nat_lt at (length from) then Ok (slice_index from at, at + 1) else Err (Short at)

-- 0 or 1
unfoldable pub flag_at : List ℕ → ℕ → Read Bool
flag_at from at = do
  flag ← u8_at from at
  if nat_lt flag.0 2 then Ok (flag.0 == 1, flag.1) else Err (Bad at)

unfoldable pub number_at : Width → List ℕ → ℕ → Read ℕ
number_at w from at = if nat_lt (length from) (at + byte_len w) then Err (Short at) else Ok (from_be_bytes w (drop at from), at + byte_len w)

abbrev pub u16_at : List ℕ → ℕ → Read ℕ
u16_at from at = number_at w16 from at

abbrev pub u32_at : List ℕ → ℕ → Read ℕ
u32_at from at = number_at w32 from at

abbrev pub u64_at : List ℕ → ℕ → Read ℕ
u64_at from at = number_at w64 from at

unfoldable pub i64_at : List ℕ → ℕ → Read ℤ
i64_at from at = do
  n ← u64_at from at
  Ok (cast_signed w64 n.0, n.1)

-- where counted bytes begin and end; a length above the most is bad before it is short
unfoldable pub bytes16_at : ℕ → List ℕ → ℕ → Read ℕ
bytes16_at most from at = do
  n ← u16_at from at
  if nat_lt most n.0 then Err (Bad at) else (if nat_lt (length from - n.1) n.0 then Err (Short at) else Ok (n.1, n.1 + n.0))

-- counted bytes themselves
unfoldable pub text16_at : ℕ → List ℕ → ℕ → Read (List ℕ)
text16_at most from at = do
  r ← bytes16_at most from at
  Ok (slice_range from r.0 r.1, r.1)

-- the place of a fault
abbrev pub fault_place : FieldFault → ℕ
fault_place (Short at) = at
fault_place (Bad at) = at

-- A reader and the bytes of what it reads agree: what is read stands there, and what stands there is read.
pub record Agree {A : Type 0} (read : List ℕ → ℕ → Read A) (bytes_of : A → List ℕ) (Fits : A → Type 0) : Type 0 where
  pub found : (from : List ℕ) (at : ℕ) (x : A) (end : ℕ) → AreBytes from → read from at ≡ Ok (x, end) → Fits x × Stands from at (bytes_of x) end
  pub again : (from : List ℕ) (at : ℕ) (x : A) (end : ℕ) → Fits x → Stands from at (bytes_of x) end → read from at ≡ Ok (x, end)
