use Rattle.coco_store.proofs.Growing.{after_commit, while_committed}
use Rattle.coco_store.proofs.laws.a_commit_entry_adds_its_epoch.Goals as goal

pub returns : goal.returns
returns c = record { after = after_commit; meanwhile = while_committed }
