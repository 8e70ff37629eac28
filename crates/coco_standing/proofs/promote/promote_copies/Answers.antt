use Rattle.std.proofs.Common.{ℕ, List, sym, subst, ◌∙◌, ◌+◌, rules}
use Rattle.std.specs.FinMap.{empty}
use Rattle.std.proofs.lemmas.Bool.{eq-eqb}
use Rattle.coco_copy.specs.CopyState.{CopyState, begun}
use Rattle.coco_standing.proofs.Changing.{ChangedBelow, one_changed, one_left}
use Rattle.coco_standing.proofs.Nodes.{not_one}
use Rattle.coco_standing.proofs.promote.promote_copies.Goals as goal
use Rattle.coco_standing.proofs.promote.promote_copies.Goals.{then-copy_node-node, else-copy_node-node}
use Rattle.coco_standing.specs.Changes.{PromotesCopy}
use Rattle.coco_standing.specs.Places.{copy_node, is_copy_on}

pub loop-place-preserved : goal.loop-place-preserved
loop-place-preserved c =
    let chosen = is_copy_on c.args.layout.now c.args.node in
    let now : List CopyState = c.loop-place.copies in
    let place : ℕ = c.loop-place.place in
    elim c.if-copy_node-node.branch [
      | then-copy_node-node w ↦ subst (λ (l : List CopyState). ChangedBelow (begun 0 empty) chosen (λ _. PromotesCopy) c.args.copies.now l (place + 1)) (sym w.copies-is)
          (one_changed (begun 0 empty) chosen (λ _. PromotesCopy) c.args.copies.now now place c.loop-place.invariant w.promote.new.self w.index-copies-place.result (search rules) (eq-eqb (copy_node c.args.layout.now place) c.args.node (sym c.copy_node.ensures ∙ w.if-copy_node-node.true)) (record { epoch = w.promote.ensures.epoch; stable = w.promote.ensures.stable; pending = w.promote.ensures.pending }))
      | else-copy_node-node w ↦ subst (λ (l : List CopyState). ChangedBelow (begun 0 empty) chosen (λ _. PromotesCopy) c.args.copies.now l (place + 1)) (sym w.copies-is)
          (one_left (begun 0 empty) chosen (λ _. PromotesCopy) c.args.copies.now now place c.loop-place.invariant (not_one (copy_node c.args.layout.now place) c.args.node (λ e. w.if-copy_node-node.false (c.copy_node.ensures ∙ e))))
    ]
