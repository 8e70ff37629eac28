-- How the reason is printed why bytes gave no message.
use Rattle.std.specs.Prelude.{ℕ, List, ◌++◌, codes, decimal}
use Rattle.coco_msg.specs.declared.fault.MessageFault.{MessageFault}
use Rattle.coco_msg.specs.declared.fault.MessageFault.TheVariants.{Bad, NoMemory}

abbrev pub fault_text : MessageFault → List ℕ
fault_text (Bad at) = codes "no message: bad at byte " ++ decimal at
fault_text NoMemory = codes "out of memory"
