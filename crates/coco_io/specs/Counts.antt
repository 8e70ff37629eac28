-- What calls do to a count of faults.
use Rattle.std.specs.Prelude.{◌≡◌, ℕ, ◌-◌, ◌^◌, ◌<◌, ◌⊎◌, Result, Ok, Err}
use Rattle.coco_types.specs.declared.error.Failed.{Failed}
use Rattle.coco_types.specs.declared.error.OutFault.{OutFault}
use Rattle.coco_types.specs.declared.error.OutFault.TheVariants.{Failed as WriteFailed, NoMemory}

-- a count rose: it is greater than before, or it stands at the greatest number of 64 bits
abbrev pub Rose : ℕ → ℕ → Type 0
Rose old new = (old < new) ⊎ ((old ≡ new) × (new ≡ 2 ^ 64 - 1))

-- what a read does to the count of faults: it rises where the read failed, and stays otherwise
abbrev pub CountsRead : {T : Type 0} → Result T Failed → ℕ → ℕ → Type 0
CountsRead (Ok x) old new = new ≡ old
CountsRead (Err e) old new = Rose old new

-- what a write does to the count of faults: it rises where the write failed, and stays otherwise
abbrev pub CountsWrite : {T : Type 0} → Result T OutFault → ℕ → ℕ → Type 0
CountsWrite (Ok x) old new = new ≡ old
CountsWrite (Err WriteFailed) old new = Rose old new
CountsWrite (Err NoMemory) old new = new ≡ old
