use Rattle.std.proofs.Common.{◌<◌, ◌%◌, arith}
use Rattle.coco_load.proofs.Ring.{behind_below}
use Rattle.coco_load.proofs.tables.nodes_behind.Goals as goal

pub returns-then-node-primary-clause-there : goal.returns-then-node-primary-clause-there
returns-then-node-primary-clause-there c =
    let less : c.args.node < c.args.partition % c.args.layout.now.nodes = omega arith in
    behind_below c.args.partition c.args.node c.args.layout.now.nodes less (omega (arith, c.requires))
