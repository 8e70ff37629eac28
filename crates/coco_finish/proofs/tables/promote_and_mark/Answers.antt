use Rattle.coco_finish.specs.Finishing.{is_behind}
use Rattle.coco_finish.proofs.TableLemmas.{stand_marked}
use Rattle.coco_finish.proofs.tables.promote_and_mark.Goals as goal

pub returns-clause-map : goal.returns-clause-map
returns-clause-map c = λ m stand.
    stand_marked c.args.layout.now m c.args.behind.now c.args.node c.promote_node.new.shards c.promote_node.new.copies c.requires.node (c.promote_node.ensures.stand m (is_behind c.args.behind.now) stand)
