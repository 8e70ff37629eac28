use Rattle.std.proofs.Common.{◌≡◌, ◌*◌, length, take}
use Rattle.coco_ship.specs.Lines.{AreNoted}
use Rattle.coco_ship.proofs.line.notes_of.Given as goal

-- the pieces so far are noted
abbrev pub invariant-loop-piece : goal.invariant-loop-piece
invariant-loop-piece l = record {
  count : length l.notes.items ≡ l.ring.partitions * l.ring.copies;
  noted : AreNoted l.ring l.pieces (take l.piece-index l.pieces) l.notes.items l.copies;
}
