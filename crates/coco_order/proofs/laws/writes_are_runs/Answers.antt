use Rattle.coco_order.proofs.WritesThere.{writes_are_runs}
use Rattle.coco_order.proofs.laws.writes_are_runs.Goals as goal

pub returns : goal.returns
returns c = writes_are_runs
