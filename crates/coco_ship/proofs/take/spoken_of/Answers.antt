use Rattle.coco_ship.proofs.TakeLemmas.{to_holder, to_primary}
use Rattle.coco_ship.proofs.take.spoken_of.Goals as goal

pub returns-in-Ship : goal.returns-in-Ship
returns-in-Ship c = rw c.in-Ship.is (to_holder c.args.ring c.args.node c.in-Ship.partition c.table_on.result c.table_on.ensures)

pub returns-in-Total : goal.returns-in-Total
returns-in-Total c = rw c.in-Total.is (to_holder c.args.ring c.args.node c.in-Total.partition c.table_on-in-Total.result c.table_on-in-Total.ensures)

pub returns-in-Missing : goal.returns-in-Missing
returns-in-Missing c = rw c.in-Missing.is (to_primary c.args.ring c.args.node c.args.from c.in-Missing.partition c.table_of_sender.result c.table_of_sender.ensures)

pub returns-in-All : goal.returns-in-All
returns-in-All c = rw c.in-All.is (to_primary c.args.ring c.args.node c.args.from c.in-All.partition c.table_of_sender-in-All.result c.table_of_sender-in-All.ensures)
