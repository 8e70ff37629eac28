use Rattle.coco_world.proofs.Reaching.{finished_said, says_finished}
use Rattle.coco_world.proofs.laws.finished_nodes_have_finished.Goals as goal

pub returns : goal.returns
returns c = record { said = finished_said; finished = says_finished }
