-- How a crash image of a file comes about: its bytes at the last sync, and each write since cut short.
use Rattle.std.specs.Prelude.{◌≡◌, ◌≢◌, ℕ, ◌<◌, ◌≤◌, Bool, false, List, [], length, take, slice_index_or, if◌then◌else◌, ◌==◌}
use Rattle.coco_host.specs.Files.{put, Torn}
use Rattle.coco_host.specs.Record.{Event, TornBy, after_all, stored}
use Rattle.coco_host.specs.Record.Event.{Wrote, Synced, Said}

-- a file as it reads after one event more
abbrev pub read_after : ℕ → Event → List ℕ → List ℕ
read_after n (Wrote w) bytes = if n == w.file then put w.at w.bytes bytes else bytes
read_after n (Synced file) bytes = bytes
read_after n (Said words) bytes = bytes

-- whether an event syncs this file
abbrev pub is_sync : ℕ → Event → Bool
is_sync n (Wrote w) = false
is_sync n (Synced file) = n == file
is_sync n (Said words) = false

-- so many of the events lead to the last sync of this file, or to its beginning
pub record IsLastSync (n : ℕ) (es : List Event) (last : ℕ) : Type 0 where
  pub within : last ≤ length es
  pub clean : (stored (take last es) n).unsynced ≡ []
  pub none_since : (k : ℕ) (e : Event) → last ≤ k → k < length es → is_sync n (slice_index_or es k e) ≡ false

-- a file's bytes once this event is cut short
abbrev pub IsTornBy : ℕ → Event → List ℕ → List ℕ → Type 0
IsTornBy n (Wrote w) old new = (n ≡ w.file → Torn w.at w.count old new) × (n ≢ w.file → new ≡ old)
IsTornBy n (Synced file) old new = new ≡ old
IsTornBy n (Said words) old new = new ≡ old

-- a file's bytes once each of these events is cut short
abbrev pub IsTornFrom : ℕ → List ℕ → List Event → List ℕ → Type 0
IsTornFrom n old es new = let s = after_all n (record { synced = old; unsynced = [] }) es in TornBy s.synced s.unsynced new
