use Rattle.coco_order.proofs.Epochs.{outcomes_are_epochs}
use Rattle.coco_order.proofs.laws.outcomes_are_epochs.Goals as goal

pub returns : goal.returns
returns c = outcomes_are_epochs
