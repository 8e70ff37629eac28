use Rattle.std.proofs.Common.{◌+◌, ◌*◌, length}
use Rattle.coco_eval.proofs.values.+computed.Given as goal

-- operands stand among fewer terms
abbrev pub decreases-computed : goal.decreases-computed
decreases-computed l = 2 * length l.terms.now

abbrev pub decreases-part : goal.decreases-part
decreases-part l = 2 * length l.terms.now + 1
