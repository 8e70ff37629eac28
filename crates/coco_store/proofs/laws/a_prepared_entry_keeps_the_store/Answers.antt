use Rattle.coco_store.proofs.Growing.{after_prepared, while_prepared}
use Rattle.coco_store.proofs.laws.a_prepared_entry_keeps_the_store.Goals as goal

pub returns : goal.returns
returns c = record { after = after_prepared; meanwhile = while_prepared }
