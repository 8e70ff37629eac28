-- A file that is a log: a header, entries behind open gates, and a gate that isn't open.
use Rattle.std.specs.Prelude.{◌≡◌, ◌≢◌, ◌⊎◌, ℕ, ◌+◌, ◌<◌, ◌≤◌, List, [], ◌∷◌, ◌++◌, length, take}
use Rattle.std.specs.List.{All, flat_map}
use Rattle.coco_bytes.specs.Fields.{u32_bytes}
use Rattle.coco_log.specs.declared.gates.TheConstants.{MOST_ENTRY_BYTES}

-- the greatest length of an entry's body, as the code has it
abbrev pub most_entry_bytes : ℕ
most_entry_bytes = MOST_ENTRY_BYTES

abbrev pub IsShort : List ℕ → Type 0
IsShort body = length body ≤ most_entry_bytes

-- the letters COCOLOG and the kind
abbrev pub header : ℕ → List ℕ
header kind = 67 ∷ 79 ∷ 67 ∷ 79 ∷ 76 ∷ 79 ∷ 71 ∷ kind ∷ []

-- what stands behind the gate of an entry, up to the next gate
abbrev pub counted : List ℕ → List ℕ
counted body = u32_bytes (length body) ++ body

-- what is written for an entry of this body: all that stands behind its gate, and a closed gate
pub record IsPiece (body piece : List ℕ) : Type 0 where
  pub short : IsShort body
  pub is : piece ≡ counted body ++ 0 ∷ []

-- an entry with its gate, which is open
abbrev pub entry : List ℕ → List ℕ
entry body = 1 ∷ counted body

-- all that stands before the last gate
abbrev pub front : ℕ → List (List ℕ) → List ℕ
front kind bodies = header kind ++ flat_map entry bodies

-- a file is a log of this kind with entries of these bodies. The last gate isn't open, and anything may stand behind it
pub record IsLog (kind : ℕ) (bodies : List (List ℕ)) (file : List ℕ) : Type 0 where
  pub gate : ℕ
  pub behind : List ℕ
  pub short : All IsShort bodies
  pub shut : gate ≢ 1
  pub is : file ≡ front kind bodies ++ gate ∷ behind

-- the file isn't as the header of this kind: first at this place, or it ends there
pub record IsNoHeader (kind : ℕ) (file : List ℕ) (at : ℕ) : Type 0 where
  pub early : at < 8
  pub same : take at file ≡ take at (header kind)
  pub differs : take (at + 1) file ≢ take (at + 1) (header kind)

-- behind the entries of these bodies an open gate stands at this place, and behind it no body with its length and a next gate
pub record IsCutShort (kind : ℕ) (file : List ℕ) (at : ℕ) : Type 0 where
  pub bodies : List (List ℕ)
  pub behind : List ℕ
  pub short : All IsShort bodies
  pub is : file ≡ front kind bodies ++ 1 ∷ behind
  pub here : at ≡ length (front kind bodies)
  pub broken : (body rest : List ℕ) (gate : ℕ) → IsShort body → behind ≢ counted body ++ gate ∷ rest

-- from this place on the file fits no log of this kind: it has another header, ends where its first gate belongs, or its last entry is cut short
abbrev pub FitsNoLog : ℕ → List ℕ → ℕ → Type 0
FitsNoLog kind file at = IsNoHeader kind file at ⊎ ((at ≡ 8) × (file ≡ header kind)) ⊎ IsCutShort kind file at
