use Rattle.coco_ast.proofs.Growths.{compacted_alike}
use Rattle.coco_ast.proofs.laws.histories.compacted_alike.Goals as goal

pub returns : goal.returns
returns c = compacted_alike
