use Rattle.std.proofs.Common.{arith}
use Rattle.coco_standing.proofs.AtRest.{all_reverted}
use Rattle.coco_standing.proofs.revert.revert_copies.Goals as goal

pub returns : goal.returns
returns c = all_reverted c.args.copies.now c.loop-place.copies c.loop-place.place (omega arith) c.loop-place.invariant
