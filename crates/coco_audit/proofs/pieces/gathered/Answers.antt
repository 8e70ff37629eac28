use Rattle.std.proofs.Common.{◌≡◌, ℕ, length, subst, arith}
use Rattle.coco_audit.specs.Dumping.{HasKeys}
use Rattle.coco_audit.proofs.DumpLemmas.{has_more, has_none, shard_is}
use Rattle.coco_audit.proofs.pieces.gathered.Goals as goal

pub loop-shard-init : goal.loop-shard-init
loop-shard-init c = has_none c.args.shards.now _

pub loop-shard-preserved : goal.loop-shard-preserved
loop-shard-preserved c =
    let shards = c.args.shards.now in
    let n = c.loop-shard.shard-index in
    let (rows, lists, added) = c.in_ok-add_keys.ensures in
    has_more shards n c.shard-item.result c.loop-shard.keys.items c.add_keys.new.keys.items rows (shard_is shards n c.shard-item.result c.loop-shard-test.true c.shard-item.is) c.loop-shard.invariant lists added

pub returns : goal.returns
returns c =
    let shards = c.args.shards.now in
    let whole : c.loop-shard.shard-index ≡ length shards = omega arith in
    subst (λ (n : ℕ). HasKeys shards n c.loop-shard.keys.items) whole c.loop-shard.invariant
