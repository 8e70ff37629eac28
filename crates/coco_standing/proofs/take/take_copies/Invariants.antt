use Rattle.std.proofs.Common.{◌≡◌, ℕ, ◌≤◌, get_or}
use Rattle.std.specs.FinMap.{empty}
use Rattle.coco_copy.specs.CopyState.{begun}
use Rattle.coco_standing.proofs.Changing.{ChangedBelow}
use Rattle.coco_standing.proofs.Moving.{IsCopyFrom}
use Rattle.coco_standing.proofs.take.take_copies.Given as goal
use Rattle.coco_standing.specs.Places.{is_copy_on}

-- those before are taken where they are on the node, and from here on the other set is as it was
abbrev pub invariant-loop-place : goal.invariant-loop-place
invariant-loop-place l = record {
  taken : ChangedBelow (begun 0 empty) (is_copy_on l.layout l.node) (IsCopyFrom l.initial.from) l.initial.copies l.copies l.place;
  rest : (i : ℕ) → l.place ≤ i → get_or l.from i (begun 0 empty) ≡ get_or l.initial.from i (begun 0 empty);
}
