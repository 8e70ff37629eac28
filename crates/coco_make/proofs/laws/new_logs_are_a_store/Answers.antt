use Rattle.coco_make.proofs.StoreLemmas.{new_logs_are_a_store}
use Rattle.coco_make.proofs.laws.new_logs_are_a_store.Goals as goal

pub returns : goal.returns
returns c = new_logs_are_a_store
