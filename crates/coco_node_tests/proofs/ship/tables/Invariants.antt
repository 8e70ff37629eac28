use Rattle.std.proofs.Common.{◌≡◌, length}
use Rattle.coco_ship.proofs.ExampleLemmas.{AreEarly}
use Rattle.coco_node_tests.proofs.ship.tables.Given as goal

-- the copies so far
abbrev pub invariant-loop-number : goal.invariant-loop-number
invariant-loop-number l = record {
  count : length l.tables.items ≡ l.number;
  early : AreEarly l.pieces l.tables.items;
}
