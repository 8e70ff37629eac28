use Rattle.coco_order.specs.OneKey.{ValidatedReadsAreLast}
use Rattle.coco_order.proofs.Reading.{reads_are_last}
use Rattle.coco_order.proofs.Orderly.{in_each}
use Rattle.coco_order.proofs.laws.validated_reads_are_last.Goals as goal

pub returns-clause-key : goal.returns-clause-key
returns-clause-key c = reads_are_last

pub returns-clause-execution : goal.returns-clause-execution
returns-clause-execution c = in_each ValidatedReadsAreLast reads_are_last
