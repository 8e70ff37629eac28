use Rattle.coco_ship.specs.Lines.{NotesPiece}
use Rattle.coco_ship.proofs.line.note_all.Given as goal

-- the copies so far
abbrev pub invariant-loop-copy : goal.invariant-loop-copy
invariant-loop-copy l = NotesPiece l.ring l.piece l.copy l.initial.notes l.copies l.notes
