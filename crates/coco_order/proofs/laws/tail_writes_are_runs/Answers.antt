use Rattle.coco_order.proofs.WritesThere.{tail_writes_are_runs}
use Rattle.coco_order.proofs.laws.tail_writes_are_runs.Goals as goal

pub returns : goal.returns
returns c = tail_writes_are_runs
