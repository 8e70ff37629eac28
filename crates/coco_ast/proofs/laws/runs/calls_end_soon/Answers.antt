use Rattle.coco_ast.proofs.Ending.{ends_soon}
use Rattle.coco_ast.proofs.laws.runs.calls_end_soon.Goals as goal

pub returns : goal.returns
returns c = ends_soon
