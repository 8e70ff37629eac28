use Rattle.coco_parallel.proofs.RunLemmas.{runs_end}
use Rattle.coco_parallel.proofs.laws.runs_end.Goals as goal

pub returns : goal.returns
returns c = runs_end
