use Rattle.coco_query.proofs.EpochLemmas.{ranges}
use Rattle.coco_query.proofs.laws.ranges_are_histories.Goals as goal

pub returns : goal.returns
returns c = ranges
