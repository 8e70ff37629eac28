use Rattle.coco_order.proofs.Times.{times_are_few}
use Rattle.coco_order.proofs.laws.times_are_few.Goals as goal

pub returns : goal.returns
returns c = times_are_few
