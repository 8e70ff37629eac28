use Rattle.coco_order.proofs.TailConflicts.{tails_conflicted}
use Rattle.coco_order.proofs.laws.tails_conflicted.Goals as goal

pub returns : goal.returns
returns c = tails_conflicted
