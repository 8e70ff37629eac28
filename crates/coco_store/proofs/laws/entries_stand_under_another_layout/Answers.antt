use Rattle.coco_store.proofs.Switching.{where_allowed}
use Rattle.coco_store.proofs.laws.entries_stand_under_another_layout.Goals as goal

pub returns : goal.returns
returns c = where_allowed
