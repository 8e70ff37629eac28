use Rattle.coco_ship.specs.Letters.{ship_of}
use Rattle.coco_ship.specs.Sending.{AreNoneOr, ShipsPiece}
use Rattle.coco_ship.proofs.ask.ship_piece.Given as goal

-- the copies so far
abbrev pub invariant-loop-copy : goal.invariant-loop-copy
invariant-loop-copy l = record {
  ships : ShipsPiece l.ring l.epoch l.piece l.lines l.copy l.initial.letters.items l.letters.items;
  bytes : AreNoneOr (ship_of l.epoch l.piece) l.bytes.items;
}
