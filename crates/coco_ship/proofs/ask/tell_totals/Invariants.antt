use Rattle.coco_ship.specs.Sending.{TellsTotals}
use Rattle.coco_ship.proofs.ask.tell_totals.Given as goal

-- the copies so far
abbrev pub invariant-loop-copy : goal.invariant-loop-copy
invariant-loop-copy l = TellsTotals l.ring l.epoch l.partition l.lines l.copy l.initial.letters.items l.letters.items
