use Rattle.coco_ast.proofs.Growths.{growths_keep, growths_split}
use Rattle.coco_ast.proofs.laws.histories.growths_keep.Goals as goal

pub returns : goal.returns
returns c = record { grown = growths_keep; through = growths_split }
