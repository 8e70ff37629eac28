-- What is seen of a host while the store in its files gains an entry.
use Rattle.std.specs.Prelude.{◌≡◌, ◌⊎◌, ℕ, List, Option, Some, Result, OnOk, IfSome}
use Rattle.coco_host.specs.Files.{Files}
use Rattle.coco_host.specs.Moments.{Observation, SeesOnly}
use Rattle.coco_host.specs.declared.host.Host.{Ghosts as HostGhosts}
use Rattle.coco_log.specs.LogState.{LogState, IsOpened}
use Rattle.coco_store.specs.Contents.{Contents, IsGoodStore, chief_of, file_of}
use Rattle.coco_store.specs.Entries.{commits_kind, prepared_kind}
use Rattle.coco_store.specs.Laws.{GainsEntry, KeepAllLogs, MayGainEntry}

-- ---- which files

-- those of a good store with these contents
abbrev pub HasStore : Contents → Files → Type 0
HasStore c files = IsGoodStore files c

-- those that keep the logs of some that a crash might have left
abbrev pub HasLogsOf : (Files → Type 0) → Files → Type 0
HasLogsOf may_leave files = (before : Files) × may_leave before × KeepAllLogs before files

-- ---- before

-- a host rests on such files: they read so, and so does all that a crash may leave
pub record RestsAs (Such : Files → Type 0) (reads : Option Files) (may_leave : Files → Type 0) : Type 0 where
  pub files : Files
  pub are : reads ≡ Some files
  pub good : Such files
  pub left : (image : Files) → may_leave image → Such image

-- on contents, where they are those of a good store with them
abbrev pub RestsOn : Contents → Option Files → (Files → Type 0) → Type 0
RestsOn c = RestsAs (HasStore c)

-- a log stands in its file: it has the entries that the file reads as, where the host tells that, and a crash leaves the file so
abbrev pub Stands : LogState → Option Files → (Files → Type 0) → Type 0
Stands log reads may_leave = IfSome reads (λ files. IsOpened log files may_leave)

-- the log of what a node prepares
pub record IsNodeLog (c : Contents) (n : ℕ) (log : LogState) : Type 0 where
  pub file : log.file ≡ file_of c.setting n
  pub kind : log.kind ≡ prepared_kind

-- the log of the committed epochs
pub record IsChiefLog (c : Contents) (log : LogState) : Type 0 where
  pub file : log.file ≡ chief_of c.setting
  pub kind : log.kind ≡ commits_kind

-- ---- meanwhile

-- seen at a moment: such files or such ones, and no more said
pub record ShowsAs (Was Now : Files → Type 0) (bytes : Option (List ℕ)) (seen : Observation) : Type 0 where
  pub store : Was seen.image ⊎ Now seen.image
  pub said : bytes ≡ Some seen.said

-- a good store with the contents of before or those of after
abbrev pub ShowsEither : Contents → Contents → Option (List ℕ) → Observation → Type 0
ShowsEither before after = ShowsAs (HasStore before) (HasStore after)

-- such files become such ones by an entry more in one, and are the one or the other while that is appended
pub record GrowsAs (Was Now : Files → Type 0) (file kind : ℕ) (body : List ℕ) : Type 0 where
  pub meanwhile : (old new : Files) → Was old → MayGainEntry file kind body old new → Was new ⊎ Now new
  pub grown : (old new : Files) → Was old → GainsEntry file kind body old new → Now new

abbrev pub Grows : Contents → Contents → ℕ → ℕ → List ℕ → Type 0
Grows before after = GrowsAs (HasStore before) (HasStore after)

-- ---- after

-- a host that rested on such files rests on such ones, where the call succeeded. At each moment of it, and behind it whatever it answered,
-- all that a crash may leave is the one or the other
pub record GainsAs {T E H : Type 0} (frame : HostGhosts H)
    (result : Result T E) (Was Now : Files → Type 0) (old new : H) : Type 0 where
  pub ok : OnOk result (RestsAs Now (frame.reads new) (frame.may_leave new))
  pub moments : SeesOnly frame.moment frame.observed old new (ShowsAs Was Now (frame.said old))
  -- where the host tells what it said
  pub left : (bytes : List ℕ) → frame.said old ≡ Some bytes → (image : Files) → frame.may_leave new image → Was image ⊎ Now image

-- one that rested on the contents of before rests on those of after
abbrev pub Gains : {T E H : Type 0} → HostGhosts H → Result T E → Contents → Contents → H → H → Type 0
Gains frame result before after = GainsAs frame result (HasStore before) (HasStore after)
