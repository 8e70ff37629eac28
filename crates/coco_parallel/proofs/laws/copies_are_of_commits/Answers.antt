use Rattle.coco_parallel.proofs.CopyLemmas.{copies_are_of_commits}
use Rattle.coco_parallel.proofs.laws.copies_are_of_commits.Goals as goal

pub returns : goal.returns
returns c = copies_are_of_commits
