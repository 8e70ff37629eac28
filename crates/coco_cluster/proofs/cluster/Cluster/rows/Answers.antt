use Rattle.std.proofs.Common.{◌≡◌, ℕ, List, length, arith, subst}
use Rattle.coco_shard.specs.RowState.{ShardState}
use Rattle.coco_types.specs.RowKey.{RowKey}
use Rattle.coco_types.specs.declared.value.Value.{Value}
use Rattle.coco_cluster.proofs.RowLemmas.{AreLists, lists_are}
use Rattle.coco_cluster.proofs.cluster.Cluster.rows.Goals as goal

pub returns : goal.returns
returns c m have =
    let lists : List (List (RowKey × Value)) = c.loop-shard.lists.items in
    let shards : List ShardState = c.as_slice-shards.result.now in
    let whole : c.loop-shard.shard-index ≡ length shards = omega arith in
    lists_are m c.args.self.now.members.tables lists have
    (subst (λ (s : List ShardState). AreLists s (length s) lists) c.as_slice-shards.ensures.value (subst (λ (n : ℕ). AreLists shards n lists) whole c.loop-shard.invariant))
