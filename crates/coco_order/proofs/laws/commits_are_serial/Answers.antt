use Rattle.coco_order.proofs.Commits.{commits_are_serial}
use Rattle.coco_order.proofs.laws.commits_are_serial.Goals as goal

pub returns : goal.returns
returns c = commits_are_serial
