use Rattle.coco_standing.proofs.Unions.{settled_hold}
use Rattle.coco_standing.proofs.laws.settled_shards_hold_a_map.Goals as goal

pub returns : goal.returns
returns c = settled_hold
