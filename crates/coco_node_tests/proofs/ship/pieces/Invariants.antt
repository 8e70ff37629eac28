use Rattle.std.proofs.Common.{◌≡◌, length}
use Rattle.coco_ship.specs.Examples.{AreNumbered}
use Rattle.coco_node_tests.proofs.ship.pieces.Given as goal

-- the pieces so far
abbrev pub invariant-loop-number : goal.invariant-loop-number
invariant-loop-number l = record {
  count : length l.pieces.items ≡ l.number;
  numbered : AreNumbered l.pieces.items;
}
