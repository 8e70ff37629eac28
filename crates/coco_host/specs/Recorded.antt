-- How a host in memory keeps its files beside the record of what happened to them.
use Rattle.std.specs.Prelude.{◌≡◌, ℕ, ◌+◌, ◌-◌, ◌≤◌, min, Bool, true, false, List, [], ◌∷◌, length, map, take, vec_capacity, Vec, if◌then◌else◌, ◌==◌}
use Rattle.std.specs.declared.alloc.Global.{Global}
use Rattle.coco_host.specs.Record.{Write, Event, Stored, content, after, stored, said_of}
use Rattle.coco_host.specs.Record.Event.{Wrote, Synced, Said}
use Rattle.coco_host.specs.declared.recorded.Happening.{Happening}
use Rattle.coco_host.specs.declared.recorded.Happening.TheVariants as happening
use Rattle.coco_host.specs.declared.held.MemoryFile.{MemoryFile}

-- an event without where it lies in memory
abbrev pub event_of : Happening → Event
event_of (happening.Wrote file at count bytes) = Wrote (record { file = file; at = at; count = count; bytes = bytes.items })
event_of (happening.Synced file) = Synced file
event_of (happening.Said bytes) = Said bytes.items

-- what the first file of this number has, or what stands for a file that isn't there
abbrev pub held_in : {A : Type 0} → (MemoryFile → A) → A → ℕ → List MemoryFile → A
held_in has none n [] = none
held_in has none n (f ∷ fs) = if n == f.number then has f else held_in has none n fs

-- the bytes of a file
abbrev pub bytes_in : ℕ → List MemoryFile → List ℕ
bytes_in n fs = held_in (λ f. f.bytes.items) [] n fs

-- whether it has writes that weren't synced
abbrev pub unsynced_in : ℕ → List MemoryFile → Bool
unsynced_in n fs = held_in (λ f. f.unsynced) false n fs

-- 1 for true
abbrev pub one_if : Bool → ℕ
one_if true = 1
one_if false = 0

-- how many files have such writes
abbrev pub unsynced_count : List MemoryFile → ℕ
unsynced_count [] = 0
unsynced_count (f ∷ fs) = one_if f.unsynced + unsynced_count fs

-- each file is as before
pub record Same (old new : List MemoryFile) : Type 0 where
  pub bytes_of : (n : ℕ) → bytes_in n new ≡ bytes_in n old
  pub unsynced_of : (n : ℕ) → unsynced_in n new ≡ unsynced_in n old
  pub count : unsynced_count new ≡ unsynced_count old

-- one file holds these bytes, with writes to be synced; the others are as before
pub record Takes (number : ℕ) (bytes : List ℕ) (old new : List MemoryFile) : Type 0 where
  pub bytes_of : (n : ℕ) → bytes_in n new ≡ (if n == number then bytes else bytes_in n old)
  pub unsynced_of : (n : ℕ) → unsynced_in n new ≡ (if n == number then true else unsynced_in n old)
  pub same_number : length new ≡ length old

-- the files hold what they did, and one of them has no writes to be synced
pub record Settles (number : ℕ) (had : Bool) (old new : List MemoryFile) : Type 0 where
  pub was : had ≡ unsynced_in number old
  pub bytes_of : (n : ℕ) → bytes_in n new ≡ bytes_in n old
  pub unsynced_of : (n : ℕ) → unsynced_in n new ≡ (if n == number then false else unsynced_in n old)
  pub fewer : unsynced_count new + one_if had ≡ unsynced_count old

-- one file holds no more than this many of its bytes; the others are as before
pub record Shortens (number len : ℕ) (old new : List MemoryFile) : Type 0 where
  pub bytes_of : (n : ℕ) → bytes_in n new ≡ (if n == number then take len (bytes_in number old) else bytes_in n old)
  pub unsynced_of : (n : ℕ) → unsynced_in n new ≡ unsynced_in n old
  pub count : unsynced_count new ≡ unsynced_count old

-- a write of this file begins within these bytes of it
abbrev pub BeginsWithin : ℕ → List ℕ → Event → Type 0
BeginsWithin n bytes (Wrote w) = n ≡ w.file → w.at ≤ length bytes
BeginsWithin n bytes (Synced file) = Unit {0}
BeginsWithin n bytes (Said words) = Unit {0}

-- each write of this file begins within what the file has by then
abbrev pub IsPlaced : ℕ → Stored → List Event → Type 0
IsPlaced n s [] = Unit {0}
IsPlaced n s (e ∷ es) = BeginsWithin n (content s) e × IsPlaced n (after n s e) es

-- a write as it were on a file that was never longer
abbrev pub cut_write : ℕ → ℕ → Write → Write
cut_write file len w = record w {
  at = (if file == w.file then min w.at len else w.at);
  bytes = (if file == w.file then take (len - w.at) w.bytes else w.bytes);
}

-- an event likewise
abbrev pub cut_event : ℕ → ℕ → Event → Event
cut_event file len (Wrote w) = Wrote (cut_write file len w)
cut_event file len (Synced f) = Synced f
cut_event file len (Said bytes) = Said bytes

-- the file of this number is kept as the events say
pub record IsKept (n : ℕ) (files : List MemoryFile) (es : List Event) : Type 0 where
  pub bytes : bytes_in n files ≡ content (stored es n)
  pub clean : unsynced_in n files ≡ false → (stored es n).unsynced ≡ []

-- files and stream are as the record says, and the record has room for a sync of each file
pub record IsRecorded (happened : Vec Happening Global) (files : List MemoryFile) (replies : List ℕ) : Type 0 where
  pub kept : (n : ℕ) → IsKept n files (map event_of happened.items)
  pub placed : (n : ℕ) → IsPlaced n (record { synced = []; unsynced = [] }) (map event_of happened.items)
  pub said : replies ≡ said_of (map event_of happened.items)
  pub room : length happened.items + unsynced_count files ≤ vec_capacity happened
