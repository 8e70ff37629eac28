-- What a turn sees and changes around its store.
pub use Rattle.coco_letters.specs.Around.{Around, IsLater, IsTaken, SkipsFew, around, spare}
