-- Where the faults of a log come from.
use Rattle.std.specs.Prelude.{◌≡◌, ℕ, Result, Ok, Err}
use Rattle.coco_types.specs.declared.error.OutFault.{OutFault}
use Rattle.coco_types.specs.declared.error.OutFault.TheVariants.{Failed, NoMemory}
use Rattle.coco_io.specs.Counts.{Rose}
use Rattle.coco_log.specs.declared.fault.LogFault.{LogFault}
use Rattle.coco_log.specs.declared.fault.LogFault.TheVariants as fault

-- what a fault of a write is to a log
abbrev pub log_fault_of : OutFault → LogFault
log_fault_of Failed = fault.Disk
log_fault_of NoMemory = fault.NoMemory

-- a call that refuses no file is a disk fault where the host's count rose, and lacks memory where it didn't
abbrev pub CountsFault : {T : Type 0} → Result T LogFault → ℕ → ℕ → Type 0
CountsFault (Ok x) old new = new ≡ old
CountsFault (Err fault.Disk) old new = Rose old new
CountsFault (Err fault.NoMemory) old new = new ≡ old
CountsFault (Err (fault.NotALog at)) old new = ⊥
CountsFault (Err fault.TooLong) old new = ⊥

-- so is a call that reads an opened one and may refuse it, for which the count stays
abbrev pub CountsRead : {T : Type 0} → Result T LogFault → ℕ → ℕ → Type 0
CountsRead (Ok x) old new = new ≡ old
CountsRead (Err fault.Disk) old new = Rose old new
CountsRead (Err fault.NoMemory) old new = new ≡ old
CountsRead (Err (fault.NotALog at)) old new = new ≡ old
CountsRead (Err fault.TooLong) old new = ⊥

-- and one that opens a file, which may be too long besides
abbrev pub CountsOpen : {T : Type 0} → Result T LogFault → ℕ → ℕ → Type 0
CountsOpen (Ok x) old new = new ≡ old
CountsOpen (Err fault.Disk) old new = Rose old new
CountsOpen (Err fault.NoMemory) old new = new ≡ old
CountsOpen (Err (fault.NotALog at)) old new = new ≡ old
CountsOpen (Err fault.TooLong) old new = new ≡ old
