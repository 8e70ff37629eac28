use Rattle.coco_order.proofs.WorkedTails.{read_is_left}
use Rattle.coco_order.proofs.laws.worked_tail.Goals as goal

pub returns : goal.returns
returns c = read_is_left
