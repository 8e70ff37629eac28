use Rattle.coco_load.proofs.TableLemmas.{none_held}
use Rattle.coco_load.proofs.tables.Tables.new.Goals as goal

pub returns : goal.returns
returns c =
    none_held c.args.layout.now c.in_ok-shards.shards.items c.in_ok-copies.copies.items c.requires c.in_ok-shards.ensures.count c.in_ok-copies.ensures.count c.in_ok-shards.ensures.empty c.in_ok-copies.ensures.empty
