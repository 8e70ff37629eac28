use Rattle.std.proofs.Common.{length, ◌-◌}
use Rattle.coco_lex.proofs.Gaps.{GapTo}
use Rattle.coco_lex.proofs.gap.gap_end.Given as goal

abbrev pub invariant-loop-at : goal.invariant-loop-at
invariant-loop-at l = GapTo l.text l.from l.at

abbrev pub decreases-loop-at : goal.decreases-loop-at
decreases-loop-at l = length l.text - l.at
