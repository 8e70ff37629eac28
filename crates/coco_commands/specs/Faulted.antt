-- What stops a run, by name.
pub use Rattle.coco_cluster.specs.declared.stop.Stop.TheVariants.{Disk, EpochsUsedUp, NoMemory, NotAStore, Read, Say, Unreachable}
