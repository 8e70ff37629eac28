use Rattle.coco_ship.proofs.ExampleLemmas.{none_other}
use Rattle.coco_node_tests.proofs.ship.ship.Goals as goal

pub ship_epoch-answer-requires-clause-fresh : goal.ship_epoch-answer-requires-clause-fresh
ship_epoch-answer-requires-clause-fresh g c = none_other 1 (g.N.Net.sent c.args.net.now) c.requires
