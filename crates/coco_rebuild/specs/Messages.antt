-- How the reason is printed why a node's file wasn't made again.
use Rattle.std.specs.Prelude.{ℕ, List, ◌++◌, codes, decimal}
use Rattle.coco_rebuild.specs.declared.fault.RebuildFault.{RebuildFault}
use Rattle.coco_rebuild.specs.declared.fault.RebuildFault.TheVariants.{Disk, NotAStore, NoNode, NoHolder, NoMemory}

abbrev pub fault_text : RebuildFault → List ℕ
fault_text Disk = codes "the disk failed"
fault_text (NotAStore file at) = codes "file " ++ (decimal file ++ (codes " is no part of a store at byte " ++ decimal at))
fault_text (NoNode nodes) = codes "there are only " ++ (decimal nodes ++ codes " nodes")
fault_text (NoHolder partition) = codes "partition " ++ (decimal partition ++ codes " has no other holder")
fault_text NoMemory = codes "out of memory"
