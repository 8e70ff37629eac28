use Rattle.coco_rebuild.proofs.Goodness.{rebuilt_good}
use Rattle.coco_rebuild.proofs.laws.a_rebuilt_store_is_good.Goals as goal

pub returns : goal.returns
returns c = rebuilt_good
