-- What contracts see of a log that is open.
use Rattle.std.specs.Prelude.{◌≡◌, ◌≢◌, ◌⊎◌, ℕ, ◌+◌, Bool, false, List, [], ◌∷◌, ◌++◌, length, drop, slice_index, Option, Some}
use Rattle.coco_host.specs.Files.{Files, put, NoMore}
use Rattle.coco_host.specs.Moments.{Observation, SeesOnly}
use Rattle.coco_host.specs.declared.host.Host.{Ghosts as HostGhosts}
use Rattle.coco_log.specs.Grammar.{header, front, entry, IsLog}

-- a log: its file and kind, the places of its entries' gates and that of the last gate, and whether it may be used no more
pub record LogState : Type 0 where
  pub file : ℕ
  pub kind : ℕ
  pub places : List ℕ
  pub end : ℕ
  pub spent : Bool

-- a log without entries
abbrev pub without_entries : ℕ → ℕ → LogState
without_entries file kind = record { file = file; kind = kind; places = []; end = 8; spent = false }

-- a log with an entry of this body more
abbrev pub with_entry : LogState → List ℕ → LogState
with_entry log body = record { file = log.file; kind = log.kind; places = log.places ++ log.end ∷ []; end = log.end + (5 + length body); spent = false }

-- the places of the entries' gates, of which the first is here
abbrev pub places_from : ℕ → List (List ℕ) → List ℕ
places_from at [] = []
places_from at (body ∷ bodies) = at ∷ places_from (at + length (entry body)) bodies

-- the file is a log with these entries, and the log knows where they stand
pub record Holds (log : LogState) (bodies : List (List ℕ)) (file : List ℕ) : Type 0 where
  pub is_log : IsLog log.kind bodies file
  pub places : log.places ≡ places_from 8 bodies
  pub end : log.end ≡ length (front log.kind bodies)

-- the places of all gates, the last one too
abbrev pub gates : LogState → List ℕ
gates log = log.places ++ log.end ∷ []

-- the entry of this number stands in the file where the log knows it, with this body
pub record HasEntry (log : LogState) (number : ℕ) (body file : List ℕ) : Type 0 where
  pub rest : List ℕ
  pub is : drop (slice_index (gates log) number) file ≡ entry body ++ rest
  pub next : slice_index (gates log) (number + 1) ≡ slice_index (gates log) number + length (entry body)

-- a file is a log of these entries, or of these and one more
abbrev pub IsBeforeOrAfter : ℕ → List (List ℕ) → List ℕ → List ℕ → Type 0
IsBeforeOrAfter kind bodies body file = IsLog kind bodies file ⊎ IsLog kind (bodies ++ body ∷ []) file

-- the log's file reads as a log with these entries, and a crash leaves it so
pub record IsAtRest (log : LogState) (bodies : List (List ℕ)) (files : Files) (may_leave : Files → Type 0) : Type 0 where
  pub holds : Holds log bodies (files log.file)
  pub durable : (c : Files) → may_leave c → c log.file ≡ files log.file

-- all files but one are as they were
abbrev pub SameBut : ℕ → Files → Files → Type 0
SameBut file old new = (n : ℕ) → n ≢ file → new n ≡ old n

-- seen while one file changes: that file is such a one, the others are as a crash might have left them before, and nothing more is said
pub record ChangesOne (file : ℕ) (Such : List ℕ → Type 0) (may_leave : Files → Type 0) (bytes : Option (List ℕ)) (seen : Observation) : Type 0 where
  pub such : Such (seen.image file)
  pub before : Files
  pub was_left : may_leave before
  pub others : (n : ℕ) → n ≢ file → seen.image n ≡ before n
  pub said : bytes ≡ Some seen.said

-- one of the files is a log of these entries with its last gate here, and a crash leaves it so
pub record IsReady (file kind gate : ℕ) (bodies : List (List ℕ)) (files : Files) (may_leave : Files → Type 0) : Type 0 where
  pub log : IsLog kind bodies (files file)
  pub at : gate ≡ length (front kind bodies)
  pub durable : (c : Files) → may_leave c → c file ≡ files file

-- an entry was written into one of the files, over its last gate and the bytes behind it, and a crash leaves that file so; the others read as before
pub record IsWritten (file kind gate : ℕ) (bodies : List (List ℕ)) (body : List ℕ) (before : Files) (reads : Option Files) (may_leave : Files → Type 0) : Type 0 where
  pub files : Files
  pub are : reads ≡ Some files
  pub log : IsLog kind (bodies ++ body ∷ []) (files file)
  pub bytes : files file ≡ put gate (entry body ++ 0 ∷ []) (before file)
  pub durable : (c : Files) → may_leave c → c file ≡ files file
  pub others : (n : ℕ) → n ≢ file → files n ≡ before n

-- after an append the log is used on: its file reads as a log with the entries from before and the new one, written over the last gate and
-- the bytes behind it, and a crash leaves it so; the others read as before
pub record IsAppended (old new : LogState) (bodies : List (List ℕ)) (body : List ℕ) (before : Files) (reads : Option Files) (may_leave : Files → Type 0) : Type 0 where
  pub files : Files
  pub are : reads ≡ Some files
  pub rest : IsAtRest new (bodies ++ body ∷ []) files may_leave
  pub bytes : files old.file ≡ put old.end (entry body ++ 0 ∷ []) (before old.file)
  pub others : (n : ℕ) → n ≢ old.file → files n ≡ before n

-- a log was made in a file, over its first bytes: it has no entries and a crash leaves it so; the other files read as before
pub record IsMade (log : LogState) (file kind : ℕ) (before : Files) (reads : Option Files) (may_leave : Files → Type 0) : Type 0 where
  pub files : Files
  pub are : reads ≡ Some files
  pub rest : IsAtRest log [] files may_leave
  pub bytes : files file ≡ put 0 (header kind ++ 0 ∷ []) (before file)
  pub others : (n : ℕ) → n ≢ file → files n ≡ before n

-- seen at a moment: files that a crash might have left before, and no more said
pub record IsAsBefore (may_leave : Files → Type 0) (bytes : Option (List ℕ)) (seen : Observation) : Type 0 where
  pub image : may_leave seen.image
  pub said : bytes ≡ Some seen.said

-- a host that was only read and synced: its files read as before, nothing is said nor failed to be, and nothing is seen that a crash might not have left before
pub record IsOnlyRead {H : Type 0} (frame : HostGhosts H) (old new : H) : Type 0 where
  pub same : frame.reads new ≡ frame.reads old
  pub quiet : frame.said new ≡ frame.said old
  pub crash : NoMore (frame.may_leave old) (frame.may_leave new)
  pub moments : SeesOnly frame.moment frame.observed old new (IsAsBefore (frame.may_leave old) (frame.said old))
  pub stream : frame.say_faults new ≡ frame.say_faults old

-- a log of this kind in this file that may be used
pub record IsFresh (log : LogState) (file kind : ℕ) : Type 0 where
  pub in_file : log.file ≡ file
  pub of_kind : log.kind ≡ kind
  pub unspent : log.spent ≡ false

-- a log that was opened: it has the entries of its file, and a crash leaves that file as it reads
pub record IsOpened (log : LogState) (files : Files) (may_leave : Files → Type 0) : Type 0 where
  pub bodies : List (List ℕ)
  pub rest : IsAtRest log bodies files may_leave
