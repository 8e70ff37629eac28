use Rattle.std.proofs.Common.{◌≡◌, max, drop}
use Rattle.coco_node.specs.Node.{greatest}
use Rattle.coco_node.proofs.machine.greatest_of.Given as goal

abbrev pub invariant-loop-epoch : goal.invariant-loop-epoch
invariant-loop-epoch l = max l.most (greatest (drop l.epoch-index l.epochs)) ≡ greatest l.epochs
