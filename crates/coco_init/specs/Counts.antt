-- Which counts of faults rise by how a call ends.
use Rattle.std.specs.Prelude.{◌≡◌, ℕ, Result, Ok, Err}
use Rattle.coco_io.specs.Counts.{Rose}
use Rattle.coco_ending.specs.declared.ending.Ending.{Ending}
use Rattle.coco_ending.specs.declared.ending.Ending.TheVariants.{DiskFault, ReadFault}

-- the source's: with a read fault, and else it stays
abbrev pub CountsReads : {T : Type 0} → Result T Ending → ℕ → ℕ → Type 0
CountsReads (Ok x) old new = new ≡ old
CountsReads (Err ReadFault) old new = Rose old new
CountsReads (Err _) old new = new ≡ old

-- the host's, of its files: with a disk fault, and else it stays
abbrev pub CountsDisk : {T : Type 0} → Result T Ending → ℕ → ℕ → Type 0
CountsDisk (Ok x) old new = new ≡ old
CountsDisk (Err DiskFault) old new = Rose old new
CountsDisk (Err _) old new = new ≡ old
