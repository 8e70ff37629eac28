use Rattle.std.proofs.Common.{ap}
use Rattle.coco_shard.specs.Kept.{view_of}
use Rattle.coco_shard.proofs.Steps.{empty_settled}
use Rattle.coco_shard.proofs.shard.Shard.new.Goals as goal

pub returns-clause-settled : goal.returns-clause-settled
returns-clause-settled c = empty_settled (view_of c.new.result.entries) (ap view_of c.new.ensures.empty)
