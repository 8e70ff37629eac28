-- What a read does to the bytes that a source has given, and whether it has met its end.
use Rattle.std.specs.Prelude.{◌≡◌, ℕ, List, Bool, ◌==◌, ◌++◌, length, take, Result, Ok, Err, if◌then◌else◌}

-- between two moments a source gave these bytes
abbrev pub Gave : List ℕ → List ℕ → List ℕ → Type 0
Gave old new bytes = new ≡ old ++ bytes

-- a read gives the bytes that it puts into the front of the buffer, and one that fails gives none
abbrev pub ReadGives : {E : Type 0} → Result ℕ E → List ℕ → List ℕ → List ℕ → Type 0
ReadGives (Ok k) into old new = Gave old new (take k into)
ReadGives (Err e) into old new = new ≡ old

-- a source is at its end where the last read of it that had room, and didn't fail, found no byte
abbrev pub ReadMeetsEnd : {E : Type 0} → Result ℕ E → List ℕ → Bool → Bool → Type 0
ReadMeetsEnd (Ok k) into old new = new ≡ (if length into == 0 then old else k == 0)
ReadMeetsEnd (Err e) into old new = new ≡ old
