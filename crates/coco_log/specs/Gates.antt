-- What reading a log's file from gate to gate gives.
use Rattle.std.specs.Prelude.{◌≡◌, ◌≢◌, ◌⊎◌, ℕ, ◌+◌, ◌<◌, ◌^◌, List, [], ◌∷◌, ◌++◌, length, take, drop, Option, Some, None, Result, Ok, Err}
use Rattle.coco_bytes.specs.Fields.{u32_bytes}
use Rattle.coco_log.specs.declared.fault.LogFault.{LogFault}
use Rattle.coco_log.specs.declared.fault.LogFault.TheVariants.{Disk, NoMemory, NotALog, TooLong}
use Rattle.coco_log.specs.declared.gates.Head.{Head}
use Rattle.coco_log.specs.declared.gates.Head.TheVariants.{End, Closed, Short, Open}
use Rattle.coco_log.specs.Grammar.{entry, counted, IsShort}

-- the bytes of a file from a place on that were read
abbrev pub IsPart : ℕ → ℕ → List ℕ → List ℕ → Type 0
IsPart from count bytes file = take count bytes ≡ take count (drop from file)

-- a file goes on with a gate that isn't open
pub record IsShut (from : List ℕ) : Type 0 where
  pub gate : ℕ
  pub rest : List ℕ
  pub shut : gate ≢ 1
  pub is : from ≡ gate ∷ rest

-- what stands where a gate belongs, of a file from there on
abbrev pub IsHead : List ℕ → Head → Type 0
IsHead from End = from ≡ []
IsHead from Closed = IsShut from
IsHead from Short = (rest : List ℕ) × (from ≡ 1 ∷ rest) × (length rest < 4)
IsHead from (Open n) = (rest : List ℕ) × (n < 2 ^ 32) × (from ≡ 1 ∷ (u32_bytes n ++ rest))

-- a file goes on with an entry and a gate, which stands so far behind
pub record IsEntry (from : List ℕ) (far : ℕ) : Type 0 where
  pub body : List ℕ
  pub gate : ℕ
  pub rest : List ℕ
  pub short : IsShort body
  pub is : from ≡ entry body ++ gate ∷ rest
  pub long : far ≡ length (entry body)

-- a file goes on with an open gate, and behind it no body with its length and a next gate
pub record IsBroken (from : List ℕ) : Type 0 where
  pub behind : List ℕ
  pub is : from ≡ 1 ∷ behind
  pub broken : (body rest : List ℕ) (gate : ℕ) → IsShort body → behind ≢ counted body ++ gate ∷ rest

-- one step from a gate to the next
abbrev pub IsStep : List ℕ → ℕ → Result (Option ℕ) LogFault → Type 0
IsStep file at (Ok None) = IsShut (drop at file)
IsStep file at (Ok (Some next)) = (far : ℕ) × (next ≡ at + far) × IsEntry (drop at file) far
IsStep file at (Err (NotALog p)) = (p ≡ at) × ((drop at file ≡ []) ⊎ IsBroken (drop at file))
IsStep file at (Err Disk) = Unit {0}
IsStep file at (Err NoMemory) = Unit {0}
IsStep file at (Err TooLong) = ⊥
