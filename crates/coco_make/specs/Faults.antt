-- Where the faults of a making come from.
use Rattle.std.specs.Prelude.{◌≡◌, ℕ, Result, Ok, Err}
use Rattle.coco_io.specs.Counts.{Rose}
use Rattle.coco_log.specs.declared.fault.LogFault.{LogFault}
use Rattle.coco_log.specs.declared.fault.LogFault.TheVariants as log
use Rattle.coco_make.specs.declared.fault.MakeFault.{MakeFault}
use Rattle.coco_make.specs.declared.fault.MakeFault.TheVariants.{Disk, NoMemory}

-- what a fault of a log is to a making, which refuses no file
abbrev pub make_fault_of : LogFault → MakeFault
make_fault_of log.Disk = Disk
make_fault_of log.NoMemory = NoMemory
make_fault_of (log.NotALog at) = Disk
make_fault_of log.TooLong = Disk

-- a disk fault where the host's count rose, and want of memory where it didn't
abbrev pub CountsMake : {T : Type 0} → Result T MakeFault → ℕ → ℕ → Type 0
CountsMake (Ok x) old new = new ≡ old
CountsMake (Err Disk) old new = Rose old new
CountsMake (Err NoMemory) old new = new ≡ old
