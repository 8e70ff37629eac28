use Rattle.std.proofs.Common.{◌≡◌, ◌<◌, inl, inr, Bool, Some, None, [], arith, false, get_or, refl, subst}
use Rattle.std.specs.List.{slice_get}
use Rattle.std.proofs.lemmas.Bool.{eq-eqb, ne_eqb}
use Rattle.std.proofs.lemmas.Option.{slice_get-get_or}
use Rattle.coco_letters.specs.Worlds.{SameEntries}
use Rattle.coco_node.specs.Node.{restarted, Node}
use Rattle.coco_power.specs.Counting.{RisesWhere}
use Rattle.coco_vote.proofs.PowerLemmas.{rises_if}
use Rattle.coco_vote.proofs.StepLemmas.{between_lost, between_none}
use Rattle.coco_finish.proofs.stopping.stop_here.Goals as goal

pub returns-in_ok-begin_anew-clause-stops : goal.returns-in_ok-begin_anew-clause-stops
returns-in_ok-begin_anew-clause-stops g c =
    let eight : c.args.node < 8 = omega (arith, c.requires.node, c.requires.few) in
    inl ((c.if-stops.ensures.stopped c.args.node eight).1.1 (eq-eqb c.args.node c.args.node refl), c.in_ok-begin_anew.ensures.cores, c.in_ok-begin_anew.ensures.voter, c.in_ok-begin_anew.ensures.sent)

pub returns-in_ok-begin_anew-clause-world : goal.returns-in_ok-begin_anew-clause-world
returns-in_ok-begin_anew-clause-world g c =
    let eight : c.args.node < 8 = omega (arith, c.requires.node, c.requires.few) in
    let any : Node = restarted 0 [] None in
    let there : slice_get c.args.cores.now c.args.node ≡ Some (get_or c.args.cores.now c.args.node any) = slice_get-get_or c.args.cores.now c.args.node any c.requires.node in
    λ chief. between_lost (g.P.Power.stopped c.args.power.now) (g.P.Power.stopped c.stops.new.self) (λ n lt. (c.if-stops.ensures.stopped n lt).0) SameEntries c.args.node
    (record { cores = c.args.cores.now; chief = chief; sent = g.N.Net.sent c.args.net.now }) (record { cores = c.begin_anew.new.cores; chief = chief; sent = g.N.Net.sent c.begin_anew.new.net })
    (λ w v same. same) eight ((c.if-stops.ensures.stopped c.args.node eight).1.1 (eq-eqb c.args.node c.args.node refl))
    (c.in_ok-begin_anew.ensures.stays (get_or c.args.cores.now c.args.node any) chief there (c.requires.newest c.args.node (get_or c.args.cores.now c.args.node any) there))

pub returns-else-stops-clause-stops : goal.returns-else-stops-clause-stops
returns-else-stops-clause-stops g c =
    let eight : c.args.node < 8 = omega (arith, c.requires.node, c.requires.few) in
    inr (rises_if false (g.P.Power.stopped c.args.power.now c.args.node) (g.P.Power.stopped c.stops.new.self c.args.node) (c.if-stops.ensures.stopped c.args.node eight), refl, refl, refl)

pub returns-else-stops-clause-world : goal.returns-else-stops-clause-world
returns-else-stops-clause-world g c = λ chief.
    between_none (g.P.Power.stopped c.args.power.now) (g.P.Power.stopped c.stops.new.self) (λ n lt. (c.if-stops.ensures.stopped n lt).0) SameEntries
    (record { cores = c.args.cores.now; chief = chief; sent = g.N.Net.sent c.args.net.now }) (λ w v same. same)

pub returns-in_ok-begin_anew-clause-elsewhere : goal.returns-in_ok-begin_anew-clause-elsewhere
returns-in_ok-begin_anew-clause-elsewhere g c = λ n lt other.
    rises_if false (g.P.Power.stopped c.args.power.now n) (g.P.Power.stopped c.stops.new.self n)
    (subst (λ (b : Bool). RisesWhere b (g.P.Power.stopped c.args.power.now n) (g.P.Power.stopped c.stops.new.self n)) (ne_eqb n c.args.node other) (c.if-stops.ensures.stopped n lt))

pub returns-else-stops-clause-elsewhere : goal.returns-else-stops-clause-elsewhere
returns-else-stops-clause-elsewhere g c = λ n lt other. rises_if false (g.P.Power.stopped c.args.power.now n) (g.P.Power.stopped c.stops.new.self n) (c.if-stops.ensures.stopped n lt)

pub returns-in_ok-begin_anew-clause-early : goal.returns-in_ok-begin_anew-clause-early
returns-in_ok-begin_anew-clause-early g c = rises_if false (g.P.Power.early_stops c.args.power.now) (g.P.Power.early_stops c.stops.new.self) c.if-stops.ensures.early

pub returns-else-stops-clause-early : goal.returns-else-stops-clause-early
returns-else-stops-clause-early g c = rises_if false (g.P.Power.early_stops c.args.power.now) (g.P.Power.early_stops c.stops.new.self) c.if-stops.ensures.early

pub returns-in_ok-begin_anew-clause-whole : goal.returns-in_ok-begin_anew-clause-whole
returns-in_ok-begin_anew-clause-whole g c = λ same. (let rose : g.P.Power.stops_seen c.args.power.now < g.P.Power.stops_seen c.stops.new.self = c.if-stops.ensures.seen.1.1 refl in absurd (omega (arith, rose, same)))

pub returns-else-stops-clause-whole : goal.returns-else-stops-clause-whole
returns-else-stops-clause-whole g c = λ same. refl
