-- What came of the calls on a folder's files, and which of them stand behind an answer.
use Rattle.std.specs.Prelude.{◌≡◌, ◌⊎◌, ℕ, ◌+◌, ◌<◌, Bool, true, List, [], ◌∷◌, ◌++◌, length, slice_index_or, All, Contains, Result, Ok, Err, Option, Some, None, if◌then◌else◌, ◌==◌}
use Rattle.std.specs.declared.io.Error.{Error}
use Rattle.coco_host.specs.declared.files.Purpose.{Purpose}
use Rattle.coco_host.specs.declared.opened.Opened.{Opened}
use Rattle.coco_host.specs.declared.opened.FileCall.{FileCall}
use Rattle.coco_host.specs.declared.opened.FileCall.TheVariants.{Absent, Ended, Synced, Entered}

-- a folder: its name, what it is wanted for, its open files, and what came of the calls on them
pub record FolderState : Type 0 where
  pub name : List ℕ
  pub purpose : Purpose
  pub files : List Opened
  pub calls : List FileCall

-- the open file of this number stands here
abbrev pub IsPlaceOf : ℕ → ℕ → List Opened → Type 0
IsPlaceOf n place files = (place < length files) × ((d : Opened) → (slice_index_or files place d).number ≡ n)

-- each file whose entry is known to be durable had it synced
abbrev pub HaveEntered : List FileCall → List Opened → Type 0
HaveEntered calls files = All (λ f. f.is_entered ≡ true → Contains calls (Entered f.number)) files

-- a call that passed is noted, and one that failed isn't
abbrev pub Notes : {T : Type 0} → FileCall → Result T Error → List FileCall → List FileCall → Type 0
Notes call (Ok x) old new = new ≡ old ++ call ∷ []
Notes call (Err e) old new = new ≡ old

-- a read that finds no byte found the file's end here
abbrev pub NotesEnd : ℕ → ℕ → Result ℕ Error → List FileCall → List FileCall → Type 0
NotesEnd n at (Ok k) old new = new ≡ (if k == 0 then old ++ Ended n at ∷ [] else old)
NotesEnd n at (Err e) old new = new ≡ old

-- a file was read into so much room: into all of it, or up to its end
abbrev pub ReadsUpTo : ℕ → ℕ → ℕ → Result ℕ Error → List FileCall → List FileCall → Type 0
ReadsUpTo n at room (Ok k) old new = ((k ≡ room) × (new ≡ old)) ⊎ ((k < room) × (new ≡ old ++ Ended n (at + k) ∷ []))
ReadsUpTo n at room (Err e) old new = new ≡ old

-- a file is looked for: it is open at this place, or it isn't there
abbrev pub Finds : ℕ → Result (Option ℕ) Error → FolderState → FolderState → Type 0
Finds n (Ok (Some place)) old new = IsPlaceOf n place new.files × (new.calls ≡ old.calls)
Finds n (Ok None) old new = new.calls ≡ old.calls ++ Absent n ∷ []
Finds n (Err e) old new = new.calls ≡ old.calls

-- a file is made, and is open at this place
abbrev pub Makes : ℕ → Result ℕ Error → FolderState → FolderState → Type 0
Makes n (Ok place) old new = IsPlaceOf n place new.files × (new.calls ≡ old.calls)
Makes n (Err e) old new = new.calls ≡ old.calls

-- a file was read into so much room: the whole of it, or up to where the file ended, or the file wasn't there
abbrev pub IsReadBy : ℕ → ℕ → ℕ → ℕ → List FileCall → List FileCall → Type 0
IsReadBy n at room k old new = ReadsUpTo n at room (Ok k) old new ⊎ ((k ≡ 0) × (new ≡ old ++ Absent n ∷ []))

-- a file was synced: its bytes now, and its entry and the folder's now or before; or it wasn't there
abbrev pub IsSyncedBy : ℕ → List FileCall → List FileCall → Type 0
IsSyncedBy n old new =
    (Contains old (Entered n) × (new ≡ old ++ Synced n ∷ []))
    ⊎ (new ≡ old ++ Synced n ∷ Entered n ∷ [])
    ⊎ (new ≡ old ++ Absent n ∷ [])
