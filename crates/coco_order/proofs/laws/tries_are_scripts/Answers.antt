use Rattle.coco_order.proofs.TailConflicts.{tries_are_scripts}
use Rattle.coco_order.proofs.laws.tries_are_scripts.Goals as goal

pub returns : goal.returns
returns c = tries_are_scripts
