use Rattle.coco_standing.proofs.AtRest.{reverted_stand}
use Rattle.coco_standing.proofs.revert.revert_all.Goals as goal

pub returns-clause-stand : goal.returns-clause-stand
returns-clause-stand c layout m keep = reverted_stand layout m c.args.shards.now c.revert_all.new.shards c.args.copies.now c.revert_copies.new.copies c.revert_all.ensures.each c.revert_copies.ensures keep
