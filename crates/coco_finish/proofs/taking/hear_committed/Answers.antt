use Rattle.std.proofs.lemmas.Result.{IfOk-weaker}
use Rattle.coco_finish.proofs.HearLemmas.{finishes_so}
use Rattle.coco_finish.proofs.taking.hear_committed.Goals as goal

pub returns-clause-heard : goal.returns-clause-heard
returns-clause-heard g c =
    IfOk-weaker c.node_finishes.result _ _
    (λ first h. finishes_so c.args.node c.args.epoch c.args.letter.now c.args.cores.now (g.N.Net.sent c.args.net.now) c.requires.some c.requires.can c.node_finishes.new.cores (g.N.Net.sent c.node_finishes.new.net) h.0 first h.2 h.1)
    c.node_finishes.ensures.heard
