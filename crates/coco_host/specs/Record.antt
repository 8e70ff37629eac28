-- What a host in memory went through, and what a crash may leave of its files by that.
use Rattle.std.specs.Prelude.{◌≡◌, ◌⊎◌, ℕ, ◌≤◌, List, [], ◌∷◌, ◌++◌, length, take, Option, Some, None, if◌then◌else◌, ◌==◌}
use Rattle.std.proofs.Common.{inl, ap, sym, subst, take_all, le_refl}
use Rattle.coco_host.specs.Files.{Files, put, Torn}
use Rattle.coco_host.specs.Moments.{Observation}

-- a write: its file, its range, and the bytes that it put at the range's front
pub record Write : Type 0 where
  pub file : ℕ
  pub at : ℕ
  pub count : ℕ
  pub bytes : List ℕ

-- what happened to the files and to the stream of replies
pub data Event : Type 0 where
  Wrote : Write → Event
  Synced : ℕ → Event
  Said : List ℕ → Event

-- a file: its bytes at the last sync, and the writes since, of which the newest comes first
pub record Stored : Type 0 where
  pub synced : List ℕ
  pub unsynced : List Write

-- the bytes with these writes put into them
abbrev pub with_writes : List ℕ → List Write → List ℕ
with_writes bytes [] = bytes
with_writes bytes (w ∷ ws) = put w.at w.bytes (with_writes bytes ws)

-- as it reads
abbrev pub content : Stored → List ℕ
content s = with_writes s.synced s.unsynced

-- the bytes with each of these writes cut short by a crash, or not
abbrev pub TornBy : List ℕ → List Write → List ℕ → Type 0
TornBy bytes [] c = c ≡ bytes
TornBy bytes (w ∷ ws) c = (d : List ℕ) × TornBy bytes ws d × Torn w.at w.count d c

-- what a crash may leave of a file: what it reads as, or what its unsynced writes make of the rest
abbrev pub IsImage : Stored → List ℕ → Type 0
IsImage s c = (c ≡ content s) ⊎ TornBy s.synced s.unsynced c

-- a file after an event
abbrev pub after : ℕ → Stored → Event → Stored
after n s (Wrote w) = if n == w.file then record s { unsynced = w ∷ s.unsynced } else s
after n s (Synced file) = if n == file then record { synced = content s; unsynced = [] } else s
after n s (Said bytes) = s

-- a file after events
abbrev pub after_all : ℕ → Stored → List Event → Stored
after_all n s [] = s
after_all n s (e ∷ es) = after_all n (after n s e) es

-- a file after all events since the beginning, when it was empty
abbrev pub stored : List Event → ℕ → Stored
stored es n = after_all n (record { synced = []; unsynced = [] }) es

-- the files as they read
abbrev pub files_of : List Event → Files
files_of es = λ n. content (stored es n)

-- what a crash may leave after these events
abbrev pub MayLeave : List Event → Files → Type 0
MayLeave es c = (n : ℕ) → IsImage (stored es n) (c n)

-- the bytes said
abbrev pub said_of : List Event → List ℕ
said_of [] = []
said_of (Wrote w ∷ es) = said_of es
said_of (Synced file ∷ es) = said_of es
said_of (Said bytes ∷ es) = bytes ++ said_of es

-- what is seen after these events
pub record IsSeenAfter (es : List Event) (seen : Observation) : Type 0 where
  pub image : MayLeave es seen.image
  pub said : seen.said ≡ said_of es

-- what was seen at some moment from this one on: a moment is the number of events so far
abbrev pub SeenSince : List Event → ℕ → Observation → Type 0
SeenSince es t seen = (k : ℕ) × (t ≤ k) × (k ≤ length es) × IsSeenAfter (take k es) seen

-- what stands in an option, or the other thing
abbrev pub known : {A : Type 0} → A → Option A → A
known other None = other
known other (Some x) = x

-- this moment is one of those since an earlier one
pub seen_now : (es : List Event) (t : ℕ) (seen : Observation) → t ≤ length es → MayLeave es seen.image → Some (said_of es) ≡ Some seen.said → SeenSince es t seen
seen_now es t seen le image said = (length es, le, le_refl (length es), subst (λ (xs : List Event). IsSeenAfter xs seen) (sym (take_all (length es) es (le_refl (length es)))) (record { image = image; said = sym (ap (known []) said) }))

-- since this moment there is no other
pub only_now : (es : List Event) (seen : Observation) → SeenSince es (length es) seen → MayLeave es seen.image × (Some (said_of es) ≡ Some seen.said)
only_now es seen h =
    let now : IsSeenAfter es seen = subst (λ (xs : List Event). IsSeenAfter xs seen) (take_all h.0 es h.1) h.3 in
    (now.image, ap Some (sym now.said))

-- the files as they read are what a crash may leave
pub reads_left : (es : List Event) (files : Files) → Some (files_of es) ≡ Some files → MayLeave es files
reads_left es files is n = inl (sym (ap (λ (o : Option Files). known (files_of es) o n) is))
