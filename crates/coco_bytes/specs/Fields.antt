-- What bytes a field has, and where it stands in bytes.
use Rattle.std.specs.Prelude.{◌≡◌, ℕ, ℤ, ◌+◌, ◌<◌, Bool, List, [], ◌∷◌, ◌++◌, length, drop, slice_index, if◌then◌else◌}
use Rattle.std.specs.Int.{w16, w32, w64, to_be_bytes, cast_unsigned}

-- numbers have their highest byte first
abbrev pub u8_bytes : ℕ → List ℕ
u8_bytes n = n ∷ []

-- 1 where it is so, else 0
abbrev pub flag_bytes : Bool → List ℕ
flag_bytes flag = u8_bytes (if flag then 1 else 0)

abbrev pub u16_bytes : ℕ → List ℕ
u16_bytes n = to_be_bytes w16 n

abbrev pub u32_bytes : ℕ → List ℕ
u32_bytes n = to_be_bytes w32 n

abbrev pub u64_bytes : ℕ → List ℕ
u64_bytes n = to_be_bytes w64 n

-- two's complement
abbrev pub i64_bytes : ℤ → List ℕ
i64_bytes n = to_be_bytes w64 (cast_unsigned w64 n)

-- two bytes of length, and that many bytes
abbrev pub bytes16 : List ℕ → List ℕ
bytes16 bytes = u16_bytes (length bytes) ++ bytes

-- a field stands at a place: the bytes from there on are the field and then the bytes from its end on
pub record Stands (from : List ℕ) (at : ℕ) (field : List ℕ) (end : ℕ) : Type 0 where
  pub here : drop at from ≡ field ++ drop end from
  pub ends : end ≡ at + length field

-- numbers that a byte can have
abbrev pub AreBytes : List ℕ → Type 0
AreBytes from = (i : ℕ) → slice_index from i < 256
