use Rattle.coco_ast.proofs.CheckedExamples.{check_examples}
use Rattle.coco_ast.proofs.laws.check_examples.Goals as goal

pub returns : goal.returns
returns c = check_examples
