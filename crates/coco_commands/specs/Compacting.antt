-- What the command `compact` does with the store in a host's files, and what is seen of it.
use Rattle.std.specs.Prelude.{◌≡◌, ◌⊎◌, ℕ, List, Option, Some, Result}
use Rattle.coco_host.specs.Files.{Become, Files, Follows}
use Rattle.coco_host.specs.Moments.{Observation}
use Rattle.coco_host.specs.declared.host.Host.{Ghosts as HostGhosts}
use Rattle.coco_append.specs.Gaining.{GainsAs, HasStore}
use Rattle.coco_ckpt.specs.Compacting.{HasCompacted, compact_files}
use Rattle.coco_ending.specs.declared.ending.Ending.{Ending}
use Rattle.coco_log.specs.declared.fault.LogFault.{LogFault}
use Rattle.coco_log.specs.Changes.{SameBesides}
use Rattle.coco_log.specs.Faults.{CountsFault}
use Rattle.coco_log.specs.LogState.{IsOnlyRead}
use Rattle.coco_serve.specs.Faults.{Counts}
use Rattle.coco_store.specs.Contents.{Contents, Holds, IsGoodStore}
use Rattle.coco_commands.specs.Migrating.{IsLeftAlone, ending_of_adding}

module _ {H : Type 0} (frame : HostGhosts H) where
  -- the store is opened, and made small. Only files that are a store are opened, and such files are never refused. Until it is opened, all that a crash may
  -- leave it might have left at entry; from then on no file changes but that of the layouts and new ones, which the last layout doesn't name. Where the files
  -- read at entry as a good store, each moment since the opening shows it as it was or compacted, and so does what is left. Where the ending is `Finished`,
  -- the files read as the compacted store, and a crash leaves no other
  pub record MakesSmall (how : Ending) (before after : Counts) (old new : H) : Type 0 where
    pub opened : H
    pub opening : IsOnlyRead frame old opened
    pub holds : (files : Files) → frame.reads old ≡ Some files → (c : Contents) × Holds files c
    pub added : Result (Unit {0}) LogFault
    pub ends : how ≡ ending_of_adding added
    pub cause : CountsFault added before.disk after.disk
    pub quiet : frame.said new ≡ frame.said old
    pub named : List ℕ
    pub are_new : (files : Files) (c : Contents) → frame.reads old ≡ Some files → Holds files c → named ≡ compact_files c.setting.entry
    pub files : Become (SameBesides named) (frame.reads opened) (frame.reads new)
    pub crash : Follows (SameBesides named) (frame.may_leave opened) (frame.may_leave new)
    pub gains : (files : Files) (c : Contents) → frame.reads old ≡ Some files → IsGoodStore files c
        → GainsAs frame added (HasStore c) (HasCompacted c) opened new

  -- the one, or the store isn't opened; nothing is said
  abbrev pub Compacts : Ending → Counts → Counts → H → H → Type 0
  Compacts how before after old new = IsLeftAlone frame how before after old new ⊎ MakesSmall how before after old new
