use Rattle.coco_query.proofs.RunLemmas.{replies_are_runs}
use Rattle.coco_query.proofs.laws.replies_are_runs.Goals as goal

pub returns : goal.returns
returns c = replies_are_runs
