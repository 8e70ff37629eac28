use Rattle.std.proofs.Common.{arith}
use Rattle.coco_parallel.proofs.EndsLemmas.{greatest_in}
use Rattle.coco_parallel.proofs.ends.greatest_read.Goals as goal

pub returns : goal.returns
returns c =
    let end = c.loop-shard-test.false in
    greatest_in c.args.shards.now c.loop-shard.most c.requires.some c.requires.partitions (λ p k lt. c.loop-shard.invariant.bounds p k (omega (arith, lt, end))) c.loop-shard.invariant.attained
