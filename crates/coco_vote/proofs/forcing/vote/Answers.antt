use Rattle.std.proofs.Common.{◌<◌, arith, false, lit<, lit≤, refl}
use Rattle.std.proofs.lemmas.Bool.{eq-eqb}
use Rattle.std.proofs.lemmas.Result.{IfOk-weaker, on_ok_weaker}
use Rattle.coco_vote.proofs.PowerLemmas.{asked_here, later_asked, rises_if}
use Rattle.coco_vote.proofs.StepLemmas.{asked_all, between_anew, between_voted, newest_forced, step_voted}
use Rattle.coco_vote.proofs.forcing.vote.Goals as goal

pub returns-then-stops-clause-world : goal.returns-then-stops-clause-world
returns-then-stops-clause-world g c =
    let eight : c.args.node < 8 = omega (arith, c.requires.node, c.requires.few) in
    λ chief. between_anew (g.P.Power.stopped c.args.power.now) (g.P.Power.stopped c.stops.new.self) (λ n lt. (c.if-stops.ensures.stopped n lt).0) c.args.node c.args.epoch
    (record { cores = c.args.cores.now; chief = chief; sent = g.N.Net.sent c.args.net.now }) (record { cores = c.begin_anew.new.cores; chief = chief; sent = g.N.Net.sent c.begin_anew.new.net })
    c.requires.node eight ((c.if-stops.ensures.stopped c.args.node eight).1.1 (eq-eqb c.args.node c.args.node refl)) c.requires.forcing (c.in_ok-begin_anew.ensures.prepares chief c.requires.forcing)

pub returns-then-stops-clause-stops : goal.returns-then-stops-clause-stops
returns-then-stops-clause-stops g c = record {
  stops = c.if-stops.ensures.seen.1.1 refl;
  early_ones = rises_if false (g.P.Power.early_stops c.args.power.now) (g.P.Power.early_stops c.stops.new.self) c.if-stops.ensures.early;
}

pub returns-then-stops-clause-asked : goal.returns-then-stops-clause-asked
returns-then-stops-clause-asked g c =
    let eight : c.args.node < 8 = omega (arith, c.requires.node, c.requires.few) in
    λ three. ((later_asked g.P.Power c.args.power.now c.stops.new.self c.stops.result c.args.node 4 (lit< tt) c.stops.ensures.seen c.stops.ensures.early c.stops.ensures.stopped c.stops.ensures.begun c.stops.ensures.asked).asked_stays c.args.node 3 eight (lit≤ tt) three, asked_here g.P.Power c.args.power.now c.stops.new.self c.stops.result c.args.node 4 (lit< tt) c.stops.ensures.seen c.stops.ensures.early c.stops.ensures.stopped c.stops.ensures.begun c.stops.ensures.asked eight (lit≤ tt))

pub end_vote-requires-clause-newest : goal.end_vote-requires-clause-newest
end_vote-requires-clause-newest g c =
    newest_forced c.args.node c.args.epoch c.args.cores.now c.node_forced.new.cores (g.N.Net.sent c.args.net.now) (g.N.Net.sent c.node_forced.new.net) c.requires.node c.in_ok-node_forced.ensures.turns

pub returns-clause-steps : goal.returns-clause-steps
returns-clause-steps g c =
    IfOk-weaker c.end_vote.result _ _
    (λ step ends. step_voted step c.args.node c.args.epoch c.args.cores.now c.node_forced.new.cores c.end_vote.new.cores (g.N.Net.sent c.args.net.now) (g.N.Net.sent c.node_forced.new.net) (g.N.Net.sent c.end_vote.new.net) c.in_ok-node_forced.ensures.turns ends)
    c.end_vote.ensures.ends

pub returns-clause-world : goal.returns-clause-world
returns-clause-world g c =
    on_ok_weaker c.end_vote.result
    (λ world. λ chief. between_voted (g.P.Power.stopped c.args.power.now) (g.P.Power.stopped c.stops.new.self) (λ n lt. (c.if-stops.ensures.stopped n lt).0) (g.P.Power.stopped c.end_vote.new.power) c.args.node c.args.epoch
    (record { cores = c.args.cores.now; chief = chief; sent = g.N.Net.sent c.args.net.now }) (record { cores = c.node_forced.new.cores; chief = chief; sent = g.N.Net.sent c.node_forced.new.net }) (record { cores = c.end_vote.new.cores; chief = chief; sent = g.N.Net.sent c.end_vote.new.net })
    c.requires.node c.requires.forcing (c.in_ok-node_forced.ensures.world chief) (world chief))
    c.end_vote.ensures.world

pub returns-clause-asked : goal.returns-clause-asked
returns-clause-asked g c =
    let eight : c.args.node < 8 = omega (arith, c.requires.node, c.requires.few) in
    IfOk-weaker c.end_vote.result _ _
    (λ step ends. λ three. asked_all step c.args.node c.args.epoch c.node_forced.new.cores c.end_vote.new.cores (g.N.Net.sent c.node_forced.new.net) (g.N.Net.sent c.end_vote.new.net) (g.P.Power.asked c.end_vote.new.power c.args.node) ends
    (c.end_vote.ensures.later.asked_stays c.args.node 3 eight (lit≤ tt) ((later_asked g.P.Power c.args.power.now c.stops.new.self c.stops.result c.args.node 4 (lit< tt) c.stops.ensures.seen c.stops.ensures.early c.stops.ensures.stopped c.stops.ensures.begun c.stops.ensures.asked).asked_stays c.args.node 3 eight (lit≤ tt) three))
    (c.end_vote.ensures.later.asked_stays c.args.node 4 eight (lit≤ tt) (asked_here g.P.Power c.args.power.now c.stops.new.self c.stops.result c.args.node 4 (lit< tt) c.stops.ensures.seen c.stops.ensures.early c.stops.ensures.stopped c.stops.ensures.begun c.stops.ensures.asked eight (lit≤ tt)))
    c.end_vote.ensures.asked)
    c.end_vote.ensures.ends
