use Rattle.coco_standing.proofs.Moving.{promoted_counted, promoted_node, promoted_others, promoted_stand}
use Rattle.coco_standing.proofs.promote.promote_node.Goals as goal

pub returns : goal.returns
returns c =
    let layout = c.args.layout.now in
    let node = c.args.node in
    let shards = c.promote_shards.ensures in
    let copies = c.promote_copies.ensures in
    record {
      counted = promoted_counted layout node c.args.shards.now _ c.args.copies.now _ c.requires shards copies;
      promoted = promoted_node layout node c.args.shards.now _ c.args.copies.now _ c.requires shards copies;
      others = promoted_others layout node c.args.shards.now _ c.args.copies.now _ c.requires shards copies;
      stand = promoted_stand layout node c.args.shards.now _ c.args.copies.now _ c.requires shards copies;
    }
