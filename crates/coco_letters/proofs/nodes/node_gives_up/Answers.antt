use Rattle.coco_letters.proofs.nodes.node_gives_up.Goals as goal

pub returns-clause-heard : goal.returns-clause-heard
returns-clause-heard g c = (c.in_ok-_actions._actions.items, c.in_ok-_actions.ensures.hears)
