use Rattle.coco_order.specs.OneKey.{MarksAreOwn}
use Rattle.coco_order.proofs.OneKey.{marks_own}
use Rattle.coco_order.proofs.Orderly.{in_each}
use Rattle.coco_order.proofs.Whole.{steps_are_mine}
use Rattle.coco_order.proofs.laws.marks_are_own.Goals as goal

pub returns-clause-key : goal.returns-clause-key
returns-clause-key c = marks_own

pub returns-clause-execution : goal.returns-clause-execution
returns-clause-execution c = in_each (λ opening k journal. MarksAreOwn k journal) marks_own

pub returns-clause-whole : goal.returns-clause-whole
returns-clause-whole c = steps_are_mine
