use Rattle.coco_store.proofs.Logs.{same_log}
use Rattle.coco_store.proofs.OneStore.{one_store}
use Rattle.coco_store.proofs.laws.files_hold_one_store.Goals as goal

pub returns : goal.returns
returns c = record { same = same_log; store = one_store }
