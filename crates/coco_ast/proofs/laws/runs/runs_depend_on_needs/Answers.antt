use Rattle.coco_ast.proofs.Depending.{run_depends}
use Rattle.coco_ast.proofs.laws.runs.runs_depend_on_needs.Goals as goal

pub returns : goal.returns
returns c = run_depends
