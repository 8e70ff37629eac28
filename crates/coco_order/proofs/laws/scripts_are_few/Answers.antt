use Rattle.coco_order.proofs.ScriptCounts.{scripts_are_few}
use Rattle.coco_order.proofs.laws.scripts_are_few.Goals as goal

pub returns : goal.returns
returns c = scripts_are_few
