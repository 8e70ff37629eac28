use Rattle.coco_rebuild.proofs.Alone.{alone_here, more_than_none, not_far, not_with_copies}
use Rattle.coco_rebuild.proofs.ring.held_alone.Goals as goal
use Rattle.coco_rebuild.proofs.ring.held_alone.Goals.{else-layout-eq0-via-then-layout-eq0+else-node-layout, else-layout-eq0-via-else-layout-eq0}

pub returns-then-node-layout : goal.returns-then-node-layout
returns-then-node-layout c =
    alone_here c.args.layout.now c.args.node c.requires.node c.if-layout-eq0.true c.if-node-layout.true

pub returns-else-layout-eq0 : goal.returns-else-layout-eq0
returns-else-layout-eq0 c =
    elim c.else-layout-eq0.branch [
      | else-layout-eq0-via-then-layout-eq0+else-node-layout w ↦
          not_far c.args.layout.now c.args.node c.requires.node w.if-layout-eq0.true w.if-node-layout.false
      | else-layout-eq0-via-else-layout-eq0 w ↦
          not_with_copies c.args.layout.now c.args.node c.requires.node (more_than_none c.args.layout.now.copies w.if-layout-eq0.false) c.requires.around
    ]
