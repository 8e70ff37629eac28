-- The rules of one kind of file, and what a body and a file are by them.
use Rattle.std.specs.Prelude.{◌≡◌, ◌⊎◌, ℕ, ◌≤◌, Bool, true, false, List, [], ◌∷◌, ◌++◌, length, map, Option, None, Some, Result, Ok, Err}
use Rattle.std.specs.List.{AllByRecursion}
use Rattle.coco_types.specs.declared.error.NoMemory.{NoMemory}
use Rattle.coco_bytes.specs.declared.fault.FieldFault.{FieldFault}
use Rattle.coco_entry.specs.Grammar.{IsFaultAt}
use Rattle.coco_host.specs.Files.{Files}
use Rattle.coco_log.specs.LogState.{LogState, Holds, IsAtRest}
use Rattle.coco_log.specs.Reading.{Reading, IsReading, log_of}
use Rattle.coco_store.specs.Entries.{IsLogOf}
use Rattle.coco_store.specs.Refusals.{IsFirst, IsRefusedAt}
use Rattle.coco_store.specs.Rules.{EachBehind}
use Rattle.coco_read.specs.declared.fault.OpenFault.{OpenFault}
use Rattle.coco_read.specs.declared.fault.OpenFault.TheVariants as fault

-- which entries there are, with their bytes and their reading behind those before them; at which byte one breaks a rule behind those before it; when something lacks behind them all
pub record EntryRules (E : Type 0) : Type 1 where
  pub bytes_of : E → List ℕ
  pub Is : E → Type 0
  pub read : List E → List ℕ → Result E FieldFault
  pub Breaks : List E → E → ℕ → Type 0
  pub Lacks : List E → Type 0

-- none of these breaks a rule
abbrev pub AreKept : {E : Type 0} → EntryRules E → List E → Type 0
AreKept rules entries = EachBehind (λ before e. (at : ℕ) → ¬ (rules.Breaks before e at)) [] entries

-- ---- a body

-- it is an entry that breaks no rule behind those before it, and stands behind them now
pub record IsTaken {E : Type 0} (rules : EntryRules E) (before : List E) (body : List ℕ) (after : List E) : Type 0 where
  pub entry : E
  pub is : rules.Is entry
  pub bytes : body ≡ rules.bytes_of entry
  pub keeps : (at : ℕ) → ¬ (rules.Breaks before entry at)
  pub last : after ≡ before ++ entry ∷ []

-- it is an entry that breaks a rule, first at this byte
pub record IsBroken {E : Type 0} (rules : EntryRules E) (before : List E) (body : List ℕ) (at : ℕ) : Type 0 where
  pub entry : E
  pub is : rules.Is entry
  pub bytes : body ≡ rules.bytes_of entry
  pub first : IsFirst (rules.Breaks before entry) at

-- it is refused at this byte, which it has or ends at: it is no entry, or breaks a rule
pub record IsRefusedBody {E : Type 0} (rules : EntryRules E) (before : List E) (body : List ℕ) (at : ℕ) : Type 0 where
  pub within : at ≤ length body
  pub why : IsFaultAt at (rules.read before body) ⊎ IsBroken rules before body at

abbrev pub Takes : {E : Type 0} → EntryRules E → List E → List ℕ → Result (Option ℕ) NoMemory → List E → Type 0
Takes rules before body (Ok None) after = IsTaken rules before body after
Takes rules before body (Ok (Some at)) after = IsRefusedBody rules before body at
Takes rules before body (Err fault) after = Unit {0}

-- ---- a file

-- it is the log of these entries, of which each keeps its rules, and nothing lacks
pub record IsFile {E : Type 0} (rules : EntryRules E) (kind : ℕ) (entries : List E) (file : List ℕ) : Type 0 where
  pub log : IsLogOf kind rules.bytes_of rules.Is entries file
  pub keep : AreKept rules entries
  pub whole : ¬ (rules.Lacks entries)

-- it is refused, first at this place
abbrev pub IsFirstIn : {E : Type 0} → EntryRules E → ℕ → List ℕ → ℕ → Type 0
IsFirstIn rules kind file = IsFirst (IsRefusedAt kind rules.bytes_of rules.Is rules.read rules.Breaks rules.Lacks file)

-- a log that was read: its file is one of these entries, and a crash leaves it so
pub record IsReadLog {E : Type 0} (rules : EntryRules E) (entries : List E) (log : LogState) (files : Files) (may_leave : Files → Type 0) : Type 0 where
  pub is : IsFile rules log.kind entries (files log.file)
  pub rest : IsAtRest log (map rules.bytes_of entries) files may_leave

-- these entries were read of it so far
pub record IsUnderWay {E : Type 0} (rules : EntryRules E) (r : Reading) (entries : List E) (file : List ℕ) : Type 0 where
  pub reading : IsReading r (map rules.bytes_of entries) file
  pub are : AllByRecursion rules.Is entries
  pub keep : AreKept rules entries

-- after a step: one more was read, or there is none and the file is a log of them, or it is refused
abbrev pub IsStep : {E : Type 0} → EntryRules E → Result Bool OpenFault → Reading → List E → List ℕ → Type 0
IsStep rules (Ok true) r entries file = IsUnderWay rules r entries file
IsStep rules (Ok false) r entries file = IsUnderWay rules r entries file × Holds (log_of r) (map rules.bytes_of entries) file
IsStep rules (Err (fault.NotAStore number at)) r entries file = IsFirstIn rules r.kind file at
IsStep rules (Err fault.Disk) r entries file = Unit {0}
IsStep rules (Err fault.NoMemory) r entries file = Unit {0}
