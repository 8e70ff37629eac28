use Rattle.std.proofs.lemmas.Result.{IfOk-weaker}
use Rattle.coco_vote.proofs.TakingLemmas.{heard_so}
use Rattle.coco_vote.proofs.taking.hear_vote.Goals as goal

pub returns-clause-heard : goal.returns-clause-heard
returns-clause-heard g c =
    IfOk-weaker c.node_votes.result _ _
    (λ heard h. heard_so c.args.node c.args.epoch c.args.letter.now c.args.cores.now (g.N.Net.sent c.args.net.now) c.requires.some c.requires.node c.requires.voting c.node_votes.new.cores (g.N.Net.sent c.node_votes.new.net) h.0 heard h.2 h.1)
    c.node_votes.ensures.heard
