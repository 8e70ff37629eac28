-- Where the faults of opening a store come from.
use Rattle.std.specs.Prelude.{◌≡◌, ℕ, Result, Ok, Err}
use Rattle.coco_io.specs.Counts.{Rose}
use Rattle.coco_log.specs.declared.fault.LogFault.{LogFault}
use Rattle.coco_log.specs.declared.fault.LogFault.TheVariants as log
use Rattle.coco_read.specs.declared.fault.OpenFault.{OpenFault}
use Rattle.coco_read.specs.declared.fault.OpenFault.TheVariants as fault

-- what a fault of the log in a file is to the store, for which one that is too long wants more memory than there is
abbrev pub fault_of : ℕ → LogFault → OpenFault
fault_of file log.Disk = fault.Disk
fault_of file log.NoMemory = fault.NoMemory
fault_of file (log.NotALog at) = fault.NotAStore file at
fault_of file log.TooLong = fault.NoMemory

-- the disk failed where the host's count of faults rose, and nowhere else
abbrev pub Counts : {T : Type 0} → Result T OpenFault → ℕ → ℕ → Type 0
Counts (Ok x) old new = new ≡ old
Counts (Err fault.Disk) old new = Rose old new
Counts (Err (fault.NotAStore file at)) old new = new ≡ old
Counts (Err fault.NoMemory) old new = new ≡ old
