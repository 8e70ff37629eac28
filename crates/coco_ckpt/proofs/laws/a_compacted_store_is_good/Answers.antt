use Rattle.coco_ckpt.proofs.Goodness.{compacted_good}
use Rattle.coco_ckpt.proofs.laws.a_compacted_store_is_good.Goals as goal

pub returns : goal.returns
returns c files contents epoch entry base good next is limits layout is_base = compacted_good c.runs_stay_in_tables.ensures files contents epoch entry base good next is limits layout is_base
