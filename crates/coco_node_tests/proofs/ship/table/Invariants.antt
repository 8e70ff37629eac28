use Rattle.std.proofs.Common.{◌≡◌}
use Rattle.coco_ship.specs.Pieces.{IsWritten}
use Rattle.coco_node_tests.proofs.ship.table.Given as goal

-- the pieces so far came
abbrev pub invariant-loop-piece : goal.invariant-loop-piece
invariant-loop-piece l = record {
  epoch : l.table.epoch ≡ 1;
  written : IsWritten l.pieces l.partition l.table;
}
