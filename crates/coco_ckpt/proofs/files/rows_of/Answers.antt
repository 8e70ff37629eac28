use Rattle.std.proofs.Common.{◌≡◌, ℕ, List, length, arith, subst}
use Rattle.coco_types.specs.RowKey.{RowKey}
use Rattle.coco_types.specs.declared.value.Value.{Value}
use Rattle.coco_ckpt.proofs.MapLists.{AreLists, lists_make}
use Rattle.coco_ckpt.proofs.files.rows_of.Goals as goal

pub returns : goal.returns
returns c m hold some =
    let lists : List (List (RowKey × Value)) = c.loop-shard.lists.items in
    let shards = c.args.shards.now in
    let whole : c.loop-shard.shard-index ≡ length shards = omega arith in
    lists_make m shards hold lists some (subst (λ (n : ℕ). AreLists shards n lists) whole c.loop-shard.invariant)
