use Rattle.std.proofs.Common.{refl, arith}
use Rattle.coco_tail.proofs.ShardLemmas.{all_settled, promoted_map}
use Rattle.coco_tail.proofs.ends.promote_all.Goals as goal

pub returns-clause-each : goal.returns-clause-each
returns-clause-each c = all_settled (λ r. r.newest) refl c.args.shards.now c.loop-place.shards c.loop-place.place (omega arith) c.loop-place.invariant

pub returns-clause-holds : goal.returns-clause-holds
returns-clause-holds c m of values = promoted_map m c.args.shards.now c.loop-place.shards (all_settled (λ r. r.newest) refl c.args.shards.now c.loop-place.shards c.loop-place.place (omega arith) c.loop-place.invariant) of values
