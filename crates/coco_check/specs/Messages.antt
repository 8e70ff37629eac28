-- How faults are printed.
use Rattle.std.specs.Prelude.{ℕ, List, codes}
use Rattle.coco_ast.specs.Messages.{error_text}
use Rattle.coco_check.specs.declared.fault.CheckFault.{CheckFault}
use Rattle.coco_check.specs.declared.fault.CheckFault.TheVariants.{Refused, NoMemory}

abbrev pub fault_text : CheckFault → List ℕ
fault_text (Refused e) = error_text e
fault_text NoMemory = codes "out of memory"
