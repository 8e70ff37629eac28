-- How the reason is printed why files weren't opened as a store.
use Rattle.std.specs.Prelude.{ℕ, List, ◌++◌, codes, decimal}
use Rattle.coco_read.specs.declared.fault.OpenFault.{OpenFault}
use Rattle.coco_read.specs.declared.fault.OpenFault.TheVariants.{Disk, NotAStore, NoMemory}

abbrev pub fault_text : OpenFault → List ℕ
fault_text Disk = codes "the disk failed"
fault_text (NotAStore file at) = codes "file " ++ (decimal file ++ (codes " is no part of a store at byte " ++ decimal at))
fault_text NoMemory = codes "out of memory"
