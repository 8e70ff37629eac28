use Rattle.std.proofs.Common.{◌≡◌, ℕ, List, get_or, sym, subst, ◌∙◌, ◌+◌, ◌≤◌, arith, rules}
use Rattle.std.specs.FinMap.{empty}
use Rattle.std.proofs.lemmas.Bool.{eq-eqb}
use Rattle.std.proofs.lemmas.List.{get_or_default}
use Rattle.coco_copy.specs.CopyState.{CopyState, begun}
use Rattle.coco_standing.proofs.Changing.{ChangedBelow, one_changed, one_left, rest_on, rest_set}
use Rattle.coco_standing.proofs.Moving.{IsCopyFrom}
use Rattle.coco_standing.proofs.Nodes.{not_one}
use Rattle.coco_standing.proofs.take.take_copies.Goals as goal
use Rattle.coco_standing.proofs.take.take_copies.Goals.{then-copy_node-node, else-copy_node-node}
use Rattle.coco_standing.specs.Places.{copy_node, is_copy_on}

pub loop-place-preserved : goal.loop-place-preserved
loop-place-preserved c =
    let chosen = is_copy_on c.args.layout.now c.args.node in
    let makes = IsCopyFrom c.args.from.now in
    let now : List CopyState = c.loop-place.copies in
    let place : ℕ = c.loop-place.place in
    elim c.if-copy_node-node.branch [
      | then-copy_node-node w ↦ record {
        taken = subst (λ (l : List CopyState). ChangedBelow (begun 0 empty) chosen makes c.args.copies.now l (place + 1)) (sym w.copies-is)
            (one_changed (begun 0 empty) chosen makes c.args.copies.now now place c.loop-place.invariant.taken w.swap.new.x (begun 0 empty) (search rules) (eq-eqb (copy_node c.args.layout.now place) c.args.node (sym c.copy_node.ensures ∙ w.if-copy_node-node.true)) (w.swap.ensures.x_after ∙ get_or_default c.loop-place.from place _ (begun 0 empty) (search rules) ∙ c.loop-place.invariant.rest place (omega arith)));
        rest = subst (λ (l : List CopyState). (i : ℕ) → place + 1 ≤ i → get_or l i (begun 0 empty) ≡ get_or c.args.from.now i (begun 0 empty)) (sym w.from-is)
            (rest_set (begun 0 empty) c.args.from.now c.loop-place.from place _ c.loop-place.invariant.rest);
      }
      | else-copy_node-node w ↦ record {
        taken = subst (λ (l : List CopyState). ChangedBelow (begun 0 empty) chosen makes c.args.copies.now l (place + 1)) (sym w.copies-is)
            (one_left (begun 0 empty) chosen makes c.args.copies.now now place c.loop-place.invariant.taken (not_one (copy_node c.args.layout.now place) c.args.node (λ e. w.if-copy_node-node.false (c.copy_node.ensures ∙ e))));
        rest = subst (λ (l : List CopyState). (i : ℕ) → place + 1 ≤ i → get_or l i (begun 0 empty) ≡ get_or c.args.from.now i (begun 0 empty)) (sym w.from-is)
            (rest_on (begun 0 empty) c.args.from.now c.loop-place.from place c.loop-place.invariant.rest);
      }
    ]
