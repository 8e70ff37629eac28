use Rattle.coco_world.proofs.Reaching.{committed_stays, durable_grows}
use Rattle.coco_world.proofs.laws.nothing_is_forgotten.Goals as goal

pub returns : goal.returns
returns c = record { committed = committed_stays; durable = durable_grows }
