use Rattle.coco_store.proofs.Switching.{after_switch, while_switch}
use Rattle.coco_store.proofs.laws.a_layout_switches_the_store.Goals as goal

pub returns : goal.returns
returns c = record { after = after_switch; meanwhile = while_switch }
