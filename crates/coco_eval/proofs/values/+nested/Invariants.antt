use Rattle.std.proofs.Common.{◌+◌, ◌*◌, length}
use Rattle.coco_eval.proofs.values.+nested.Given as goal

-- operands stand among fewer terms
abbrev pub decreases-nested : goal.decreases-nested
decreases-nested l = 2 * length l.terms.now

abbrev pub decreases-nested_or_quick : goal.decreases-nested_or_quick
decreases-nested_or_quick l = 2 * length l.terms.now + 1
