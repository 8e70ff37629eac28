-- How a call ends that has turned to a store, by what stopped it.
use Rattle.std.specs.Prelude.{Result, Ok, Err}
use Rattle.coco_cluster.specs.declared.stop.Stop.{Stop}
use Rattle.coco_cluster.specs.declared.stop.Stop.TheVariants as stop
use Rattle.coco_ending.specs.declared.ending.Ending.{Ending}
use Rattle.coco_ending.specs.declared.ending.Ending.TheVariants as ending

abbrev pub ending_of : Result (Unit {0}) Stop → Ending
ending_of (Ok done) = ending.Finished
ending_of (Err stop.Read) = ending.ReadFault
ending_of (Err stop.Say) = ending.SayFault
ending_of (Err stop.Disk) = ending.DiskFault
ending_of (Err (stop.NotAStore file at)) = ending.NotAStore file at
ending_of (Err stop.Unreachable) = ending.Unreachable
ending_of (Err stop.EpochsUsedUp) = ending.EpochsUsedUp
ending_of (Err stop.NoMemory) = ending.NoMemory
