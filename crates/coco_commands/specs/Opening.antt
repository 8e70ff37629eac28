-- How the opening of a store ends that doesn't succeed.
use Rattle.std.specs.Prelude.{◌≡◌, ℕ, List, Option, IfSome}
use Rattle.coco_host.specs.Files.{Files}
use Rattle.coco_host.specs.Moments.{Observation}
use Rattle.coco_host.specs.declared.host.Host.{Ghosts as HostGhosts}
use Rattle.coco_io.specs.Counts.{Rose}
use Rattle.coco_ending.specs.declared.ending.Ending.{Ending}
use Rattle.coco_ending.specs.declared.ending.Ending.TheVariants as ending
use Rattle.coco_log.specs.LogState.{IsOnlyRead}
use Rattle.coco_read.specs.declared.fault.OpenFault.{OpenFault}
use Rattle.coco_read.specs.declared.fault.OpenFault.TheVariants as fault
use Rattle.coco_serve.specs.Serving.{Outside}
use Rattle.coco_store.specs.Refusals.{IsFirstRefusal}

abbrev pub ending_of_opening : OpenFault → Ending
ending_of_opening fault.Disk = ending.DiskFault
ending_of_opening (fault.NotAStore file at) = ending.NotAStore file at
ending_of_opening fault.NoMemory = ending.NoMemory

-- by the ending: the disk's count rose; the files are no store, first at this place; or memory ran out
abbrev pub FailsToOpen : Ending → Option Files → ℕ → ℕ → Type 0
FailsToOpen ending.DiskFault reads old new = Rose old new
FailsToOpen (ending.NotAStore file at) reads old new = (new ≡ old) × IfSome reads (λ files. IsFirstRefusal files file at)
FailsToOpen ending.NoMemory reads old new = new ≡ old
FailsToOpen _ reads old new = ⊥

-- a command whose store isn't opened only reads, says nothing, takes nothing of its input, and leaves net and power as they are
pub record IsUnopened {H : Type 0} (frame : HostGhosts H)
    (ending : Ending) (before after : Outside) (old new : H) : Type 0 where
  pub read : IsOnlyRead frame old new
  pub source : after.source ≡ before.source
  pub reading : after.source_faults ≡ before.source_faults
  pub stream : after.say_faults ≡ before.say_faults
  pub around : after.around ≡ before.around
  pub cause : FailsToOpen ending (frame.reads old) before.disk_faults after.disk_faults
