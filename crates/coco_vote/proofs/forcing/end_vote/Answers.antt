use Rattle.std.proofs.Common.{◌<◌, arith, false, refl}
use Rattle.std.proofs.lemmas.Bool.{eq-eqb}
use Rattle.coco_letters.specs.Worlds.{SameEntries}
use Rattle.coco_vote.proofs.PowerLemmas.{rises_if}
use Rattle.coco_vote.proofs.StepLemmas.{between_lost}
use Rattle.coco_vote.proofs.forcing.end_vote.Goals as goal

pub returns-then-stops-clause-world : goal.returns-then-stops-clause-world
returns-then-stops-clause-world g c =
    let eight : c.args.node < 8 = omega (arith, c.requires.node, c.requires.few) in
    λ chief. between_lost (g.P.Power.stopped c.args.power.now) (g.P.Power.stopped c.stops.new.self) (λ n lt. (c.if-stops.ensures.stopped n lt).0) SameEntries c.args.node
    (record { cores = c.args.cores.now; chief = chief; sent = g.N.Net.sent c.args.net.now }) (record { cores = c.begin_anew.new.cores; chief = chief; sent = g.N.Net.sent c.begin_anew.new.net })
    (λ w v same. same) eight ((c.if-stops.ensures.stopped c.args.node eight).1.1 (eq-eqb c.args.node c.args.node refl))
    (c.in_ok-begin_anew.ensures.stays c.requires.newest.core chief c.requires.newest.there c.requires.newest.newest)

pub returns-then-stops-clause-stops : goal.returns-then-stops-clause-stops
returns-then-stops-clause-stops g c = record {
  stops = c.if-stops.ensures.seen.1.1 refl;
  early_ones = rises_if false (g.P.Power.early_stops c.args.power.now) (g.P.Power.early_stops c.stops.new.self) c.if-stops.ensures.early;
}

pub returns-clause-stops : goal.returns-clause-stops
returns-clause-stops g c = record {
  stops = rises_if false (g.P.Power.stops_seen c.args.power.now) (g.P.Power.stops_seen c.stops.new.self) c.if-stops.ensures.seen;
  early_ones = rises_if false (g.P.Power.early_stops c.args.power.now) (g.P.Power.early_stops c.stops.new.self) c.if-stops.ensures.early;
}
