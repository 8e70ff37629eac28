use Rattle.coco_vote.proofs.EndingLemmas.{heard_gives, heard_over, heard_silent}
use Rattle.coco_vote.proofs.giving_up.hear_end.Goals as goal

pub returns-clause-give_up : goal.returns-clause-give_up
returns-clause-give_up g c =
    let heard = c.in_ok-node_gives_up.ensures.heard in
    heard_gives c.args.epoch c.args.node c.args.letter.now c.args.cores.now c.node_gives_up.new.cores (g.N.Net.sent c.args.net.now) (g.N.Net.sent c.node_gives_up.new.net) heard.0 heard.1

pub returns-clause-told : goal.returns-clause-told
returns-clause-told g c =
    let heard = c.in_ok-node_gives_up.ensures.heard in
    λ from. heard_over c.args.epoch c.args.node c.args.letter.now c.args.cores.now c.node_gives_up.new.cores (g.N.Net.sent c.args.net.now) (g.N.Net.sent c.node_gives_up.new.net) heard.0 heard.1 c.requires.some c.requires.node from

pub returns-clause-silent : goal.returns-clause-silent
returns-clause-silent g c =
    let heard = c.in_ok-node_gives_up.ensures.heard in
    heard_silent c.args.epoch c.args.node c.args.letter.now c.args.cores.now c.node_gives_up.new.cores (g.N.Net.sent c.args.net.now) (g.N.Net.sent c.node_gives_up.new.net) heard.0 heard.1
