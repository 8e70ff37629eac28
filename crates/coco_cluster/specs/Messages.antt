-- How the reason is printed why a turn failed, or what is built on turns.
use Rattle.std.specs.Prelude.{ℕ, List, ◌++◌, codes, decimal}
use Rattle.coco_cluster.specs.declared.stop.Stop.{Stop}
use Rattle.coco_cluster.specs.declared.stop.Stop.TheVariants.{Read, Say, Disk, NotAStore, Unreachable, EpochsUsedUp, NoMemory}

abbrev pub fault_text : Stop → List ℕ
fault_text Read = codes "input fault"
fault_text Say = codes "output fault"
fault_text Disk = codes "disk fault"
fault_text (NotAStore file at) = codes "file " ++ (decimal file ++ (codes " is no part of a store at byte " ++ decimal at))
fault_text Unreachable = codes "nodes unreachable"
fault_text EpochsUsedUp = codes "epochs used up"
fault_text NoMemory = codes "out of memory"
