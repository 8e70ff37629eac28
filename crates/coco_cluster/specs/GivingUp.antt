-- Why attempts at an epoch are given up.
pub use Rattle.coco_letters.specs.GivingUp.{AreGivenUp, Awaits, IsGivenUp, answer_to}
