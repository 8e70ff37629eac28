use Rattle.coco_world.proofs.Reaching.{promotes_committed, never_later, never_earlier}
use Rattle.coco_world.proofs.laws.agreement.Goals as goal

pub returns : goal.returns
returns c = record { committed = promotes_committed; never_later = never_later; never_earlier = never_earlier }
