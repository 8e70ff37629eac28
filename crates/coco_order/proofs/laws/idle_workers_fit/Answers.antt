use Rattle.coco_order.proofs.Idle.{idle_workers_fit}
use Rattle.coco_order.proofs.laws.idle_workers_fit.Goals as goal

pub returns : goal.returns
returns c = idle_workers_fit
