use Rattle.coco_load.proofs.Adding.{base_dones_follow, committed_dones_follow, kept_are_the_history}
use Rattle.coco_load.proofs.laws.kept_dones_follow_the_files.Goals as goal

pub returns : goal.returns
returns c = record { base = base_dones_follow; committed = committed_dones_follow; history = kept_are_the_history }
