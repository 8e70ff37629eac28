use Rattle.coco_append.proofs.CommitEntries.{next_in}
use Rattle.coco_append.proofs.runs.a_run_is_the_next_commit.Goals as goal

pub returns : goal.returns
returns c = next_in
