use Rattle.coco_letters.proofs.HearingLemmas.{says_by, takes_by}
use Rattle.coco_letters.proofs.OnlyLemmas.{sends_nothing}
use Rattle.coco_letters.proofs.nodes.takes.Goals as goal

pub send_actions-requires-clause-messages : goal.send_actions-requires-clause-messages
send_actions-requires-clause-messages g c =
    says_by c.args.node c.args.message.now c.args.cores.now c.index-cores-node.result c.handle.new.self c.in_ok-actions.actions.items c.deref.result.now c.index-cores-node.is c.in_ok-actions.ensures.ok c.deref.ensures.value c.requires.message

pub returns-clause-takes : goal.returns-clause-takes
returns-clause-takes g c =
    takes_by c.args.node c.args.message.now c.args.cores.now c.index-cores-node.result c.handle.new.self c.in_ok-actions.actions.items c.deref.result.now c.index-cores-node.is c.in_ok-actions.ensures.ok c.deref.ensures.value
    (g.N.Net.sent c.args.net.now) (g.N.Net.sent c.send_actions.new.net) c.requires.node c.in_ok-send_actions.ensures.sent

pub returns-in_err-actions-clause-sends : goal.returns-in_err-actions-clause-sends
returns-in_err-actions-clause-sends g c = sends_nothing c.args.net.now
