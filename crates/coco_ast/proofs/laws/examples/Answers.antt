use Rattle.coco_ast.proofs.WorkedExamples.{examples}
use Rattle.coco_ast.proofs.laws.examples.Goals as goal

pub returns : goal.returns
returns c = examples
