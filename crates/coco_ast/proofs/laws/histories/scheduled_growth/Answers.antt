use Rattle.coco_ast.proofs.ScheduleLemmas.{scheduled}
use Rattle.coco_ast.proofs.laws.histories.scheduled_growth.Goals as goal

pub returns : goal.returns
returns c = scheduled
