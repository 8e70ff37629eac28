use Rattle.coco_store.proofs.Keeping.{store_kept}
use Rattle.coco_store.proofs.laws.a_store_is_its_logs.Goals as goal

pub returns : goal.returns
returns c = store_kept
