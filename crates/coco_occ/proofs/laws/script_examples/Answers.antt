use Rattle.coco_occ.proofs.WorkedScripts.{script_examples}
use Rattle.coco_occ.proofs.laws.script_examples.Goals as goal

pub returns : goal.returns
returns c = script_examples
