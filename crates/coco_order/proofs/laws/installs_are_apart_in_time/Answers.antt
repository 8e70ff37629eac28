use Rattle.coco_order.proofs.OneKey.{installs_apart}
use Rattle.coco_order.proofs.Orderly.{in_each}
use Rattle.coco_order.specs.Laws.{ApartInTime}
use Rattle.coco_order.proofs.laws.installs_are_apart_in_time.Goals as goal

pub returns : goal.returns
returns c = in_each (λ opening k journal. ApartInTime k journal) installs_apart
