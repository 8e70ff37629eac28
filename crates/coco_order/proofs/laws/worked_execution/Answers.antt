use Rattle.coco_order.proofs.WorkedExecutions.{read_is_tried_again}
use Rattle.coco_order.proofs.laws.worked_execution.Goals as goal

pub returns : goal.returns
returns c = read_is_tried_again
