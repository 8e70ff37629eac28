use Rattle.std.specs.FinMap.{empty}
use Rattle.coco_copy.specs.CopyState.{begun}
use Rattle.coco_standing.proofs.Changing.{ChangedBelow}
use Rattle.coco_standing.proofs.promote.promote_copies.Given as goal
use Rattle.coco_standing.specs.Changes.{PromotesCopy}
use Rattle.coco_standing.specs.Places.{is_copy_on}

-- those before are promoted where they are on the node
abbrev pub invariant-loop-place : goal.invariant-loop-place
invariant-loop-place l = ChangedBelow (begun 0 empty) (is_copy_on l.layout l.node) (λ _. PromotesCopy) l.initial.copies l.copies l.place
