use Rattle.coco_cluster.proofs.RowLemmas.{AreLists}
use Rattle.coco_cluster.proofs.cluster.Cluster.rows.Given as goal

-- there is a list of each shard so far
abbrev pub invariant-loop-shard : goal.invariant-loop-shard
invariant-loop-shard l = AreLists l.shards l.shard-index l.lists.items
