-- What contracts see of a log's file that is read entry by entry.
use Rattle.std.specs.Prelude.{◌≡◌, ◌⊎◌, ℕ, ◌<◌, Bool, true, false, List, [], ◌∷◌, ◌++◌, length, drop, Result, Ok, Err}
use Rattle.std.specs.List.{All}
use Rattle.coco_host.specs.Files.{Files}
use Rattle.coco_log.specs.declared.fault.LogFault.{LogFault}
use Rattle.coco_log.specs.declared.fault.LogFault.TheVariants.{Disk, NoMemory, NotALog, TooLong}
use Rattle.coco_log.specs.Grammar.{front, IsShort, FitsNoLog}
use Rattle.coco_log.specs.Gates.{IsPart}
use Rattle.coco_log.specs.LogState.{LogState, Holds, places_from}

-- a file of this kind that is read: the places of the gates that were passed and that of the next one, the file's length, the bytes that
-- were read last and where they stand, and the body of the entry that was read last
pub record Reading : Type 0 where
  pub file : ℕ
  pub kind : ℕ
  pub places : List ℕ
  pub at : ℕ
  pub end : ℕ
  pub from : ℕ
  pub count : ℕ
  pub bytes : List ℕ
  pub body : List ℕ

-- it is of this file and kind
pub record IsOf (file kind : ℕ) (r : Reading) : Type 0 where
  pub in_file : r.file ≡ file
  pub of_kind : r.kind ≡ kind

-- the log whose last gate is the next one
abbrev pub log_of : Reading → LogState
log_of r = record { file = r.file; kind = r.kind; places = r.places; end = r.at; spent = false }

-- the entries of these bodies stand in the file before the next gate
pub record IsWalked (kind : ℕ) (file places : List ℕ) (at : ℕ) (bodies : List (List ℕ)) : Type 0 where
  pub short : All IsShort bodies
  pub is : file ≡ front kind bodies ++ drop at file
  pub here : at ≡ length (front kind bodies)
  pub gates : places ≡ places_from 8 bodies

-- the entries of these bodies, and no other ones, were read of the file
pub record IsReading (r : Reading) (bodies : List (List ℕ)) (file : List ℕ) : Type 0 where
  pub walked : IsWalked r.kind file r.places r.at bodies
  pub end : r.end ≡ length file
  pub gate : (r.at ≡ 8) ⊎ (r.at < r.end)
  pub part : IsPart r.from r.count r.bytes file

-- nothing was read but the header, and a crash leaves the file as it reads
pub record IsBegun (r : Reading) (files : Files) (may_leave : Files → Type 0) : Type 0 where
  pub reading : IsReading r [] (files r.file)
  pub durable : (c : Files) → may_leave c → c r.file ≡ files r.file

-- after a call for the next entry: it was read, or there is none and the file is a log of all that were, or the file fits no log from the
-- next gate on, or the call failed
abbrev pub IsNext : Result Bool LogFault → Reading → Reading → List (List ℕ) → List ℕ → Type 0
IsNext (Ok true) old new bodies file = IsReading new (bodies ++ new.body ∷ []) file
IsNext (Ok false) old new bodies file = IsReading new bodies file × Holds (log_of new) bodies file
IsNext (Err (NotALog at)) old new bodies file = IsReading new bodies file × (at ≡ old.at) × FitsNoLog old.kind file at
IsNext (Err Disk) old new bodies file = IsReading new bodies file
IsNext (Err NoMemory) old new bodies file = IsReading new bodies file
IsNext (Err TooLong) old new bodies file = ⊥
