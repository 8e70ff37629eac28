-- How the reason is printed why a write took nothing.
use Rattle.std.specs.Prelude.{ℕ, List, codes}
use Rattle.coco_types.specs.declared.error.OutFault.{OutFault}
use Rattle.coco_types.specs.declared.error.OutFault.TheVariants.{Failed, NoMemory}

abbrev pub fault_text : OutFault → List ℕ
fault_text Failed = codes "a write failed"
fault_text NoMemory = codes "out of memory"
