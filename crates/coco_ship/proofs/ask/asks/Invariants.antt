use Rattle.std.proofs.Common.{take}
use Rattle.coco_ship.proofs.AskLemmas.{AreAskedTo, AreShips}
use Rattle.coco_ship.proofs.ask.asks.Given as goal

-- the pieces so far were shipped
abbrev pub invariant-loop-piece : goal.invariant-loop-piece
invariant-loop-piece l = AreShips l.ring l.epoch l.pieces (take l.piece-index l.pieces) l.lines l.letters.items

-- and the copies of the partitions so far were told the places
abbrev pub invariant-loop-partition : goal.invariant-loop-partition
invariant-loop-partition l = AreAskedTo l.ring l.epoch l.pieces l.lines l.partition l.letters.items
