use Rattle.coco_order.proofs.ReadTimes.{reads_are_few}
use Rattle.coco_order.proofs.laws.reads_are_few.Goals as goal

pub returns : goal.returns
returns c = reads_are_few
