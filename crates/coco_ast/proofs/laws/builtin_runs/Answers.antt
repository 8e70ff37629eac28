use Rattle.coco_ast.proofs.BuiltinLaws.{builtin_forms}
use Rattle.coco_ast.proofs.laws.builtin_runs.Goals as goal

pub returns : goal.returns
returns c = builtin_forms
