-- What those who call `try` cite of workloads.
pub use Rattle.coco_gen.specs.Workload.{workload_of}
pub use Rattle.coco_try.specs.Trying.{AreUsedUp, HasCause, TriedSoFar, Tries}
