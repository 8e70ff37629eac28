use Rattle.coco_order.specs.OneKey.{WriteTimesRise}
use Rattle.coco_order.proofs.OneKey.{times_rise}
use Rattle.coco_order.proofs.Orderly.{in_each}
use Rattle.coco_order.proofs.laws.write_times_rise.Goals as goal

pub returns-clause-key : goal.returns-clause-key
returns-clause-key c = times_rise

pub returns-clause-execution : goal.returns-clause-execution
returns-clause-execution c = in_each (λ opening k journal. WriteTimesRise k journal) times_rise
