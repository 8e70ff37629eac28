use Rattle.coco_world.proofs.Beginning.{entries_begin, greatest_decides}
use Rattle.coco_world.proofs.laws.entries_begin_a_world.Goals as goal

pub returns : goal.returns
returns c = record { begin = entries_begin; cores = greatest_decides }
