-- What those who call the commands cite of serving.
pub use Rattle.coco_cluster.specs.Around.{Around, around}
pub use Rattle.coco_cluster.specs.Turning.{epochs_of}
pub use Rattle.coco_serve.specs.Faults.{Counts}
pub use Rattle.coco_serve.specs.Growth.{manner_of}
pub use Rattle.coco_serve.specs.Serving.{AreUsedUp, HasCause, Outside, ServedSoFar, Serves, spare_of}
pub use Rattle.coco_serve.specs.declared.bounds.RunBounds.{RunBounds}
pub use Rattle.coco_cluster.specs.declared.stop.Stop.{Stop}
