use Rattle.std.proofs.Common.{List, subst}
use Rattle.std.specs.FinMap.{empty}
use Rattle.coco_copy.specs.CopyState.{CopyState, begun}
use Rattle.coco_shard.specs.RowState.{ShardState}
use Rattle.coco_standing.proofs.Moving.{IsCopyFrom, IsShardFrom, taken_counted, taken_node, taken_others, taken_stand}
use Rattle.coco_standing.proofs.take.take_tables.Goals as goal
use Rattle.coco_standing.specs.Changes.{ChangesAt}
use Rattle.coco_standing.specs.Places.{is_copy_on, is_shard_on}

pub returns : goal.returns
returns c =
    let layout = c.args.layout.now in
    let node = c.args.node in
    let from = c.args.from in
    let shards = subst (λ (l : List ShardState). ChangesAt empty (is_shard_on layout node) (IsShardFrom l) c.args.shards.now c.take_shards.new.shards) c.as_mut_slice.ensures.value c.take_shards.ensures in
    let copies = subst (λ (l : List CopyState). ChangesAt (begun 0 empty) (is_copy_on layout node) (IsCopyFrom l) c.args.copies.now c.take_copies.new.copies) c.as_mut_slice-2.ensures.value c.take_copies.ensures in
    record {
      counted = taken_counted layout node from.shards.items c.args.shards.now _ from.copies.items c.args.copies.now _ c.requires.counted shards copies;
      taken = taken_node layout node from.shards.items c.args.shards.now _ from.copies.items c.args.copies.now _ c.requires.counted shards copies;
      others = taken_others layout node from.shards.items c.args.shards.now _ from.copies.items c.args.copies.now _ c.requires.counted shards copies;
      stand = taken_stand layout node from.shards.items c.args.shards.now _ from.copies.items c.args.copies.now _ c.requires.counted shards copies;
    }
