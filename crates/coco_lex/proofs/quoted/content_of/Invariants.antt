use Rattle.std.proofs.Common.{length, ◌-◌}
use Rattle.coco_lex.proofs.Texts.{OpensCounted}
use Rattle.coco_lex.proofs.quoted.content_of.Given as goal

abbrev pub invariant-loop-end : goal.invariant-loop-end
invariant-loop-end l = OpensCounted l.rest l.end l.count

abbrev pub decreases-loop-end : goal.decreases-loop-end
decreases-loop-end l = length l.rest - l.end
