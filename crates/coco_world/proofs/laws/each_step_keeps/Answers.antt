use Rattle.coco_world.proofs.Reaching.{run_keeps}
use Rattle.coco_world.proofs.laws.each_step_keeps.Goals as goal

pub returns : goal.returns
returns c = run_keeps
