-- How the reason is printed why bytes are no entry.
use Rattle.std.specs.Prelude.{ℕ, List, ◌++◌, codes, decimal}
use Rattle.coco_entry.specs.declared.fault.EntryFault.{EntryFault}
use Rattle.coco_entry.specs.declared.fault.EntryFault.TheVariants.{Bad, NoMemory}

abbrev pub fault_text : EntryFault → List ℕ
fault_text (Bad at) = codes "no entry: bad at byte " ++ decimal at
fault_text NoMemory = codes "out of memory"
