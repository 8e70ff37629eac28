-- How the reason is printed why a store was not made.
use Rattle.std.specs.Prelude.{ℕ, List, codes}
use Rattle.coco_make.specs.declared.fault.MakeFault.{MakeFault}
use Rattle.coco_make.specs.declared.fault.MakeFault.TheVariants.{Disk, NoMemory}

abbrev pub fault_text : MakeFault → List ℕ
fault_text Disk = codes "disk fault"
fault_text NoMemory = codes "out of memory"
