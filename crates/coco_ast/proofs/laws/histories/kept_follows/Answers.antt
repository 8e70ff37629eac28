use Rattle.coco_ast.proofs.Growths.{kept_are_dones}
use Rattle.coco_ast.proofs.KeptLemmas as kept
use Rattle.coco_ast.proofs.laws.histories.kept_follows.Goals as goal

pub returns : goal.returns
returns c = record { one_more = kept.follows; all = kept.keeps_all; found = kept_are_dones }
