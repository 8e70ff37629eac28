use Rattle.std.proofs.Common.{List, ap, ◌∙◌}
use Rattle.coco_msg.specs.declared.action.Action.{Action}
use Rattle.coco_letters.specs.Turns.{promotes}
use Rattle.coco_letters.proofs.nodes.node_finishes.Goals as goal

pub returns-clause-heard : goal.returns-clause-heard
returns-clause-heard g c = (c.in_ok-actions.actions.items, c.in_ok-actions.ensures.hears, c.promotes.ensures ∙ ap (λ (actions : List Action). promotes actions) c.deref.ensures.value)
