use Rattle.coco_ast.proofs.WorkedHistories.{history_examples}
use Rattle.coco_ast.proofs.laws.histories.history_examples.Goals as goal

pub returns : goal.returns
returns c = history_examples
