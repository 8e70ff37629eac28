use Rattle.coco_world.proofs.Reaching.{world_holds}
use Rattle.coco_world.proofs.laws.invariant.Goals as goal

pub returns : goal.returns
returns c = world_holds
