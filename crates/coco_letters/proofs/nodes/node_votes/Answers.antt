use Rattle.std.proofs.Common.{List, ap, ◌∙◌}
use Rattle.coco_msg.specs.declared.action.Action.{Action}
use Rattle.coco_letters.specs.Turns.{heard_of}
use Rattle.coco_letters.proofs.nodes.node_votes.Goals as goal

pub returns-clause-heard : goal.returns-clause-heard
returns-clause-heard g c = (c.in_ok-actions.actions.items, c.in_ok-actions.ensures.hears, c.heard_of.ensures ∙ ap (λ (actions : List Action). heard_of actions) c.deref.ensures.value)
