use Rattle.std.proofs.Common.{arith, sym}
use Rattle.coco_letters.specs.Worlds.{Prepares, SameEntries}
use Rattle.coco_vote.proofs.StepLemmas.{one_then, same_then, stopped_then}
use Rattle.coco_vote.proofs.forcing.begin_anew.Goals as goal

pub returns-clause-stays : goal.returns-clause-stays
returns-clause-stays g c = λ core chief there is.
    stopped_then SameEntries c.args.node (record { cores = c.args.cores.now; chief = chief; sent = g.N.Net.sent c.args.net.now }) (record { cores = c.restart.new.cores; chief = chief; sent = g.N.Net.sent c.args.net.now }) (record { cores = c.restart.new.cores; chief = chief; sent = g.N.Net.sent c.node_asks.new.net })
    same_then (c.in_ok-restart.ensures.stays core chief (g.N.Net.sent c.args.net.now) there (sym is)) (c.in_ok-node_asks.ensures.world chief)

pub returns-clause-prepares : goal.returns-clause-prepares
returns-clause-prepares g c = λ chief forces.
    stopped_then (Prepares c.args.node c.args.epoch) c.args.node (record { cores = c.args.cores.now; chief = chief; sent = g.N.Net.sent c.args.net.now }) (record { cores = c.restart.new.cores; chief = chief; sent = g.N.Net.sent c.args.net.now }) (record { cores = c.restart.new.cores; chief = chief; sent = g.N.Net.sent c.node_asks.new.net })
    (one_then c.args.node c.args.epoch) (c.in_ok-restart.ensures.prepares forces.core chief (g.N.Net.sent c.args.net.now) forces.there (sym forces.forcing) (omega (arith, forces.forcing, forces.newer))) (c.in_ok-node_asks.ensures.world chief)
