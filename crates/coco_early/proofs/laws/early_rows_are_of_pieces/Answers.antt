use Rattle.coco_early.proofs.EarlyLemmas.{are_begun, has_outcome}
use Rattle.coco_early.proofs.laws.early_rows_are_of_pieces.Goals as goal

pub returns : goal.returns
returns c s shards dones pieces trace run before after journals copied ring fits =
    are_begun c.writes_are_runs.ensures s dones pieces trace (has_outcome s shards dones pieces trace run) before after journals copied ring fits
