-- Which entries are too long, and where the faults of adding one come from.
use Rattle.std.specs.Prelude.{◌≡◌, ⊤, ℕ, ◌<◌, ◌≤◌, Result, Ok, Err}
use Rattle.coco_log.specs.Faults.{CountsFault}
use Rattle.coco_log.specs.Grammar.{most_entry_bytes}
use Rattle.coco_log.specs.declared.fault.LogFault.{LogFault}
use Rattle.coco_log.specs.declared.fault.LogFault.TheVariants as log
use Rattle.coco_append.specs.declared.fault.AddFault.{AddFault}
use Rattle.coco_append.specs.declared.fault.AddFault.TheVariants as fault

-- what a fault of an append is to who adds an entry; an append refuses no file
abbrev pub add_fault_of : LogFault → AddFault
add_fault_of log.Disk = fault.Disk
add_fault_of log.NoMemory = fault.NoMemory
add_fault_of (log.NotALog at) = fault.Disk
add_fault_of log.TooLong = fault.Disk

-- and what that is to who can't make the entry shorter
abbrev pub log_fault_of : AddFault → LogFault
log_fault_of fault.Disk = log.Disk
log_fault_of fault.NoMemory = log.NoMemory
log_fault_of fault.TooLong = log.NoMemory

-- the disk failed where the host's count rose, and nowhere else
abbrev pub CountsAdd : {T : Type 0} → Result T AddFault → ℕ → ℕ → Type 0
CountsAdd (Ok x) old new = new ≡ old
CountsAdd {T = T} (Err f) old new = CountsFault {T = T} (Err (log_fault_of f)) old new

-- an entry whose body has so many bytes was added only where that is no more than one may have; it was refused for its length only where it is
-- more, and nothing has changed then
abbrev pub RefusesLong : {T : Type 0} → Result T AddFault → ℕ → Type 0 → Type 0
RefusesLong (Ok x) count Unchanged = count ≤ most_entry_bytes
RefusesLong (Err fault.Disk) count Unchanged = ⊤
RefusesLong (Err fault.NoMemory) count Unchanged = ⊤
RefusesLong (Err fault.TooLong) count Unchanged = (most_entry_bytes < count) × Unchanged
