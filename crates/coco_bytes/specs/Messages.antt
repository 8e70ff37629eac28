-- How the reason is printed why a field could not be read.
use Rattle.std.specs.Prelude.{ℕ, List, ◌++◌, codes, decimal}
use Rattle.coco_bytes.specs.declared.fault.FieldFault.{FieldFault}
use Rattle.coco_bytes.specs.declared.fault.FieldFault.TheVariants.{Short, Bad}

abbrev pub fault_text : FieldFault → List ℕ
fault_text (Short at) = codes "the bytes end within the field at " ++ decimal at
fault_text (Bad at) = codes "no such field can stand at " ++ decimal at
