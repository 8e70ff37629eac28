-- What a fault of reading an entry is to the rules of its file.
use Rattle.std.specs.Prelude.{ℕ, Option, Some, Result, Ok, Err}
use Rattle.coco_types.specs.declared.error.NoMemory.{NoMemory}
use Rattle.coco_entry.specs.declared.fault.EntryFault.{EntryFault}
use Rattle.coco_entry.specs.declared.fault.EntryFault.TheVariants as faults

abbrev pub refusal_of : EntryFault → Result (Option ℕ) NoMemory
refusal_of (faults.Bad at) = Ok (Some at)
refusal_of faults.NoMemory = Err (record {})
