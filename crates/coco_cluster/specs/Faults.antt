-- Where the faults of a turn come from, and what the faults below it are to it.
use Rattle.std.specs.Prelude.{◌≡◌, ⊤, ℕ, Result, Ok, Err}
use Rattle.coco_io.specs.Counts.{Rose}
use Rattle.coco_types.specs.Limits.{epochs_end}
use Rattle.coco_types.specs.declared.error.OutFault.{OutFault}
use Rattle.coco_types.specs.declared.error.OutFault.TheVariants as out
use Rattle.coco_log.specs.declared.fault.LogFault.{LogFault}
use Rattle.coco_log.specs.declared.fault.LogFault.TheVariants as log
use Rattle.coco_read.specs.declared.fault.OpenFault.{OpenFault}
use Rattle.coco_read.specs.declared.fault.OpenFault.TheVariants as open_fault
use Rattle.coco_cluster.specs.Around.{Around, SkipsFew, spare}
use Rattle.coco_cluster.specs.GivingUp.{AreGivenUp}
use Rattle.coco_cluster.specs.declared.stop.Stop.{Stop}
use Rattle.coco_cluster.specs.declared.stop.Stop.TheVariants as stop

-- what a fault of a log is to a turn, which refuses no file
abbrev pub stop_of_log : LogFault → Stop
stop_of_log log.Disk = stop.Disk
stop_of_log log.NoMemory = stop.NoMemory
stop_of_log (log.NotALog at) = stop.Disk
stop_of_log log.TooLong = stop.Disk

-- what a fault of reading a node anew is to a turn
abbrev pub stop_of_opening : OpenFault → Stop
stop_of_opening open_fault.Disk = stop.Disk
stop_of_opening (open_fault.NotAStore file at) = stop.NotAStore file at
stop_of_opening open_fault.NoMemory = stop.NoMemory

-- what a fault of saying is to those who say what a turn came to
abbrev pub stop_of_saying : OutFault → Stop
stop_of_saying out.Failed = stop.Say
stop_of_saying out.NoMemory = stop.NoMemory

-- a turn neither reads nor says; it is a disk fault where the host's count rose; nodes are unreachable where four attempts were given up; its epochs are used up where the numbers reach the end,
-- but for few that may have been skipped
abbrev pub CountsTurn : {T : Type 0} → Result T Stop → ℕ → Around → Around → ℕ → ℕ → Type 0
CountsTurn (Ok x) next before after old new = new ≡ old
CountsTurn (Err stop.Read) next before after old new = ⊥
CountsTurn (Err stop.Say) next before after old new = ⊥
CountsTurn (Err stop.Disk) next before after old new = Rose old new
CountsTurn (Err (stop.NotAStore file at)) next before after old new = new ≡ old
CountsTurn (Err stop.NoMemory) next before after old new = new ≡ old
CountsTurn (Err stop.Unreachable) next before after old new = (new ≡ old) × AreGivenUp 4 before after
CountsTurn (Err stop.EpochsUsedUp) next before after old new = (new ≡ old) × SkipsFew next epochs_end 0 (spare before after)

-- the parts of a turn are a disk fault where the host's count rose; they refuse no file, and neither give the turn up nor find that no number is left
abbrev pub CountsPart : {T : Type 0} → Result T Stop → ℕ → ℕ → Type 0
CountsPart (Ok x) old new = new ≡ old
CountsPart (Err stop.Read) old new = ⊥
CountsPart (Err stop.Say) old new = ⊥
CountsPart (Err stop.Disk) old new = Rose old new
CountsPart (Err (stop.NotAStore file at)) old new = ⊥
CountsPart (Err stop.NoMemory) old new = new ≡ old
CountsPart (Err stop.Unreachable) old new = ⊥
CountsPart (Err stop.EpochsUsedUp) old new = ⊥

-- where nodes are read anew a file may be refused besides
abbrev pub CountsAttempt : {T : Type 0} → Result T Stop → ℕ → ℕ → Type 0
CountsAttempt (Ok x) old new = new ≡ old
CountsAttempt (Err stop.Read) old new = ⊥
CountsAttempt (Err stop.Say) old new = ⊥
CountsAttempt (Err stop.Disk) old new = Rose old new
CountsAttempt (Err (stop.NotAStore file at)) old new = new ≡ old
CountsAttempt (Err stop.NoMemory) old new = new ≡ old
CountsAttempt (Err stop.Unreachable) old new = ⊥
CountsAttempt (Err stop.EpochsUsedUp) old new = ⊥

-- a turn may have committed its epoch: not where it gave up, or found no number for it
abbrev pub MayHaveCommitted : {T : Type 0} → Result T Stop → Type 0
MayHaveCommitted (Ok x) = ⊤
MayHaveCommitted (Err stop.Read) = ⊥
MayHaveCommitted (Err stop.Say) = ⊥
MayHaveCommitted (Err stop.Disk) = ⊤
MayHaveCommitted (Err (stop.NotAStore file at)) = ⊤
MayHaveCommitted (Err stop.NoMemory) = ⊤
MayHaveCommitted (Err stop.Unreachable) = ⊥
MayHaveCommitted (Err stop.EpochsUsedUp) = ⊥
