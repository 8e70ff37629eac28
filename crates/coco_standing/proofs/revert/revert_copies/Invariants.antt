use Rattle.std.proofs.Common.{true}
use Rattle.std.specs.FinMap.{empty}
use Rattle.coco_copy.specs.CopyState.{begun}
use Rattle.coco_standing.proofs.AtRest.{IsReverted}
use Rattle.coco_standing.proofs.Changing.{ChangedBelow}
use Rattle.coco_standing.proofs.revert.revert_copies.Given as goal

-- those before are reverted
abbrev pub invariant-loop-place : goal.invariant-loop-place
invariant-loop-place l = ChangedBelow (begun 0 empty) (λ _. true) IsReverted l.initial.copies l.copies l.place
