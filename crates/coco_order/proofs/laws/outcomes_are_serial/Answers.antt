use Rattle.coco_order.proofs.Tail.{outcomes_are_serial}
use Rattle.coco_order.proofs.laws.outcomes_are_serial.Goals as goal

pub returns : goal.returns
returns c = outcomes_are_serial
