-- What the command `migrate` does with the store in a host's files, and what is seen of it.
use Rattle.std.specs.Prelude.{◌≡◌, ◌⊎◌, ℕ, List, Option, Some, Result, Ok, Err}
use Rattle.coco_host.specs.Files.{Become, Files, Follows}
use Rattle.coco_host.specs.Moments.{Observation}
use Rattle.coco_host.specs.declared.host.Host.{Ghosts as HostGhosts}
use Rattle.coco_append.specs.Gaining.{Gains}
use Rattle.coco_ending.specs.declared.ending.Ending.{Ending}
use Rattle.coco_ending.specs.declared.ending.Ending.TheVariants as ending
use Rattle.coco_log.specs.declared.fault.LogFault.{LogFault}
use Rattle.coco_log.specs.declared.fault.LogFault.TheVariants as fault
use Rattle.coco_log.specs.Faults.{CountsFault}
use Rattle.coco_log.specs.LogState.{IsOnlyRead, SameBut}
use Rattle.coco_commands.specs.Opening.{FailsToOpen}
use Rattle.coco_serve.specs.Faults.{Counts}
use Rattle.coco_store.specs.Contents.{Contents, Holds, IsGoodStore}
use Rattle.coco_store.specs.Entries.{layouts_file}
use Rattle.coco_commands.specs.Keeping.{contents_keeping}

-- how a call ends whose layout was added so; an append refuses no file
abbrev pub ending_of_adding : Result (Unit {0}) LogFault → Ending
ending_of_adding (Ok u) = ending.Finished
ending_of_adding (Err fault.Disk) = ending.DiskFault
ending_of_adding (Err fault.NoMemory) = ending.NoMemory
ending_of_adding (Err (fault.NotALog at)) = ending.DiskFault
ending_of_adding (Err fault.TooLong) = ending.DiskFault

module _ {H : Type 0} (frame : HostGhosts H) where
  -- the store isn't opened: no file changes
  pub record IsLeftAlone (how : Ending) (before after : Counts) (old new : H) : Type 0 where
    pub read : IsOnlyRead frame old new
    pub stream : after.say ≡ before.say
    pub cause : FailsToOpen how (frame.reads old) before.disk after.disk

  -- the store is opened, and its layout is added once more, with the keep number. Only files that are a store are opened, and such files are never refused
  -- (`a_refused_store_is_none`): so `NotAStore` comes exactly where the files are none, at the first place, and neither a fault of the disk nor want of
  -- memory ended the opening. Until it is opened, all that a crash may leave it might have left at entry; from then on no file changes but that of the
  -- layouts. Where the files read at entry as a good store, each moment since the opening shows it as it was or with the keep number, and so does what is
  -- left. Where the ending is `Finished`, the files read as that store with the keep number, and a crash leaves no other
  pub record SetsKeep (keep : ℕ) (how : Ending) (before after : Counts) (old new : H) : Type 0 where
    pub opened : H
    pub opening : IsOnlyRead frame old opened
    pub holds : (files : Files) → frame.reads old ≡ Some files → (c : Contents) × Holds files c
    pub added : Result (Unit {0}) LogFault
    pub ends : how ≡ ending_of_adding added
    pub cause : CountsFault added before.disk after.disk
    pub stream : after.say ≡ before.say
    pub quiet : frame.said new ≡ frame.said old
    pub files : Become (SameBut layouts_file) (frame.reads opened) (frame.reads new)
    pub crash : Follows (SameBut layouts_file) (frame.may_leave opened) (frame.may_leave new)
    pub gains : (files : Files) (c : Contents) → frame.reads old ≡ Some files → IsGoodStore files c
        → Gains frame added c (contents_keeping keep c) opened new

  -- the one or the other; nothing is said
  abbrev pub Migrates : ℕ → Ending → Counts → Counts → H → H → Type 0
  Migrates keep how before after old new = IsLeftAlone how before after old new ⊎ SetsKeep keep how before after old new
