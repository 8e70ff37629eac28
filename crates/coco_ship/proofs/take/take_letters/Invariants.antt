use Rattle.std.proofs.Common.{take}
use Rattle.coco_ship.specs.Rounds.{FitRing}
use Rattle.coco_ship.specs.Taking.{at_node, Brings, Hears, OfBoth, OfTables}
use Rattle.coco_ship.proofs.take.take_letters.Given as goal

-- what the letters so far did
abbrev pub invariant-loop-letter : goal.invariant-loop-letter
invariant-loop-letter l = record {
  ok : OfBoth l.ring (Hears l.ring l.epoch (at_node l.node (take l.letter-index l.letters))) l.initial.lines l.initial.copies l.lines l.copies;
  tables : OfTables l.ring (Brings l.ring l.epoch (at_node l.node (take l.letter-index l.letters))) l.initial.copies l.copies;
  fit : FitRing l.ring l.epoch l.lines l.copies;
}
