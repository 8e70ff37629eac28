use Rattle.std.proofs.Common.{◌≡◌, List}
use Rattle.std.specs.List.{Contains}
use Rattle.coco_types.specs.declared.call.Piece.{Piece}
use Rattle.coco_ship.specs.Pieces.{IsWritten}
use Rattle.coco_node_tests.proofs.ship.put_early.Given as goal

-- the writes so far came
abbrev pub invariant-loop-write : goal.invariant-loop-write
invariant-loop-write l = record {
  epoch : l.table.epoch ≡ 1;
  written : (pieces : List Piece) → Contains pieces l.piece → IsWritten pieces l.partition l.initial.table → IsWritten pieces l.partition l.table;
}
