use Rattle.coco_parallel.proofs.LeftLemmas.{tails_are_left}
use Rattle.coco_parallel.proofs.laws.tails_are_left.Goals as goal

pub returns : goal.returns
returns c = tails_are_left c.tails_conflicted.ensures c.scripts_are_few.ensures c.times_are_few.ensures
