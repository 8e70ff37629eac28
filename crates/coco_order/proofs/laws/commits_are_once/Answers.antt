use Rattle.coco_order.proofs.Once.{commits_are_once}
use Rattle.coco_order.proofs.laws.commits_are_once.Goals as goal

pub returns : goal.returns
returns c = commits_are_once
