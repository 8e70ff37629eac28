use Rattle.std.proofs.Common.{length}
use Rattle.coco_audit.specs.Dumping.{text_of}
use Rattle.coco_commands.proofs.SayingLemmas.{IsSaying}
use Rattle.coco_commands.proofs.dumping.say_pieces.Given as goal

-- the pieces so far were said, and the others are to come
abbrev pub invariant-pieces : goal.invariant-pieces
invariant-pieces g l = IsSaying g.H.Host g.H.Host.say_faults g.H.Host.disk_faults l.fn.host (text_of l.fn.dump) l.dump l.host

abbrev pub decreases-pieces : goal.decreases-pieces
decreases-pieces g l = length (text_of l.dump)
