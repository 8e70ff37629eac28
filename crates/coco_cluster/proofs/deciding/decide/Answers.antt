use Rattle.std.proofs.Common.{◌+◌, [], arith, length, true≢false, is_err, ap, refl, sym, subst}
use Rattle.std.proofs.lemmas.Result.{err_from_is_err_and}
use Rattle.coco_letters.specs.Around.{Around, around}
use Rattle.coco_members.specs.AtRest.{scene_of}
use Rattle.coco_members.specs.declared.members.Members.{Members}
use Rattle.coco_ship.specs.Pieces.{AreShippable}
use Rattle.coco_ship.specs.Placing.{IsRing}
use Rattle.coco_ship.specs.Shipping.{AreBegun}
use Rattle.coco_trial.specs.Running.{ring_of}
use Rattle.coco_vote.specs.Taking.{AreReady}
use Rattle.coco_cluster.specs.Trying.{AreQuiet, DecidesFiles}
use Rattle.coco_cluster.proofs.AskLemmas.{asked_none}
use Rattle.coco_cluster.proofs.AroundLemmas.{gives_stopped, later_still}
use Rattle.coco_cluster.proofs.DecideLemmas.{failed_files, idle_keeps, rests_now, stay_stopped}
use Rattle.coco_cluster.proofs.DecidedLemmas.{decided_before, stays_stopped, stays_then, NoneStops}
use Rattle.coco_cluster.proofs.EntryLemmas.{on_later, on_rests, on_same}
use Rattle.coco_cluster.proofs.StepLemmas.{steps_later, steps_same}
use Rattle.coco_cluster.proofs.StopLemmas.{logs_ready}
use Rattle.coco_cluster.proofs.deciding.decide.Goals as goal

pub one_stops-requires-clause-quiet : goal.one_stops-requires-clause-quiet
one_stops-requires-clause-quiet g c = (g.N.Net.sent c.args.net.now, c.requires.quiet)

-- ---- a node that stops, or no memory for that

pub returns-in_err-one_stops-clause-files : goal.returns-in_err-one_stops-clause-files
returns-in_err-one_stops-clause-files g c =
    let p = err_from_is_err_and c.from_residual.result c.from_residual.ensures.1 in
    failed_files g.H.Host g.met.H.Host.only_now c.from_residual.result c.args.epoch c.args.pieces.now c.args.members.now c.args.host.now (ap is_err p.1)

pub returns-in_err-one_stops-clause-rest : goal.returns-in_err-one_stops-clause-rest
returns-in_err-one_stops-clause-rest g c = stays_stopped g.H.Host g.N.Net g.P.Power c.args.members.now c.one_stops.new.members c.args.host.now c.args.net.now c.args.power.now c.one_stops.new.power c.one_stops.ensures.stays (c.one_stops.ensures.power (omega arith))

pub returns-then-branch-clause-decided : goal.returns-then-branch-clause-decided
returns-then-branch-clause-decided g c =
    let k : Members = c.args.members.now in
    let mid : Members = c.one_stops.new.members in
    let epoch = c.args.epoch in
    let sent = g.N.Net.sent c.args.net.now in
    let x = scene_of k sent in
    let y = scene_of mid sent in
    let i = g.P.Power.stopped c.args.power.now in
    let j = g.P.Power.stopped c.one_stops.new.power in
    let a : Around = around g.N.Net g.P.Power c.args.net.now c.args.power.now in
    let b : Around = around g.N.Net g.P.Power c.args.net.now c.one_stops.new.power in
    let reads = g.H.Host.reads c.args.host.now in
    let may_leave = g.H.Host.may_leave c.args.host.now in
    record {
      decides = (rw c.if-branch.true at c.in_ok-one_stops.ensures.quiet) sent c.requires.quiet;
      cause = gives_stopped a b (later_still a b refl refl refl refl c.one_stops.ensures.counts.early_rises) (rw c.if-branch.true at c.in_ok-one_stops.ensures.told);
      voted = tt;
      steps = steps_later i j epoch epoch (epoch + 1) [] x y (omega arith) (steps_same i j epoch x y c.one_stops.ensures.nodes (c.in_ok-one_stops.ensures.world sent));
      entries = λ d e hold held may nodes logs rests behind. on_rests d d e i j epoch (epoch + 1) [] x y reads may_leave rests behind
          (on_later d d i j epoch epoch (epoch + 1) [] x y (omega arith) (on_same d i j epoch x y c.one_stops.ensures.nodes (c.in_ok-one_stops.ensures.world sent)));
      places = stay_stopped k mid c.one_stops.ensures.stays c.in_ok-one_stops.ensures.logs;
      whole = c.in_ok-one_stops.ensures.whole;
      give = λ is. absurd (true≢false (sym is));
      ready = logs_ready k.voters.items mid.voters.items reads may_leave c.in_ok-one_stops.ensures.logs c.requires.ready;
    }

pub returns-then-branch-clause-files : goal.returns-then-branch-clause-files
returns-then-branch-clause-files g c d hold after gives held may nodes logs rests behind = (
  idle_keeps g.H.Host g.met.H.Host.only_now d c.args.epoch c.args.host.now rests behind,
  rests_now d c.args.epoch (g.H.Host.reads c.args.host.now) (g.H.Host.may_leave c.args.host.now) rests behind,
)

pub returns-then-branch-clause-rest : goal.returns-then-branch-clause-rest
returns-then-branch-clause-rest g c = stays_stopped g.H.Host g.N.Net g.P.Power c.args.members.now c.one_stops.new.members c.args.host.now c.args.net.now c.args.power.now c.one_stops.new.power c.one_stops.ensures.stays (c.one_stops.ensures.power (omega arith))

-- ---- none stops

pub ship_and_vote-requires-clause-quiet : goal.ship_and_vote-requires-clause-quiet
ship_and_vote-requires-clause-quiet g c = subst (λ (k : Members). AreQuiet c.args.epoch (g.N.Net.sent c.args.net.now) k) (sym (c.in_ok-one_stops.ensures.none c.if-branch.false)) c.requires.quiet

pub ship_and_vote-requires-clause-ring : goal.ship_and_vote-requires-clause-ring
ship_and_vote-requires-clause-ring g c = subst (λ (k : Members). IsRing (ring_of k.tables.layout)) (sym (c.in_ok-one_stops.ensures.none c.if-branch.false)) c.requires.ring

pub ship_and_vote-requires-clause-pieces : goal.ship_and_vote-requires-clause-pieces
ship_and_vote-requires-clause-pieces g c = subst (λ (k : Members). AreShippable (ring_of k.tables.layout) c.args.pieces.now) (sym (c.in_ok-one_stops.ensures.none c.if-branch.false)) c.requires.pieces

pub ship_and_vote-requires-clause-begun : goal.ship_and_vote-requires-clause-begun
ship_and_vote-requires-clause-begun g c = subst (λ (k : Members). AreBegun (ring_of k.tables.layout) c.args.epoch c.args.pieces.now k.tables.copies.items) (sym (c.in_ok-one_stops.ensures.none c.if-branch.false)) c.requires.begun

pub ship_and_vote-requires-clause-ready : goal.ship_and_vote-requires-clause-ready
ship_and_vote-requires-clause-ready g c = subst (λ (k : Members). AreReady k.voters.items (g.H.Host.reads c.args.host.now) (g.H.Host.may_leave c.args.host.now)) (sym (c.in_ok-one_stops.ensures.none c.if-branch.false)) c.requires.ready

pub returns-clause-decided : goal.returns-clause-decided
returns-clause-decided g c =
    let k : Members = c.args.members.now in
    let sent = g.N.Net.sent c.args.net.now in
    let are = c.requires.quiet.are in
    let none : NoneStops g.P.Power 2 sent k c.one_stops.new.members c.args.power.now c.one_stops.new.power = record {
      are = are;
      same = c.in_ok-one_stops.ensures.none c.if-branch.false;
      early = rw c.if-branch.false at c.in_ok-one_stops.ensures.told;
      asked = λ n lt. asked_none c.in_ok-one_stops.field-0 (length k.cores.items) 2 (g.P.Power.stopped c.args.power.now) (g.P.Power.stopped c.one_stops.new.power) (g.P.Power.asked c.args.power.now) (g.P.Power.asked c.one_stops.new.power)
          c.if-branch.false are.few (omega arith) c.in_ok-one_stops.ensures.asked n (omega (arith, lt, are.layout));
      world = c.in_ok-one_stops.ensures.world sent;
      whole = c.in_ok-one_stops.ensures.whole;
    } in
    decided_before g.H.Host g.N.Net g.P.Power 2 c.args.host.now c.ship_and_vote.new.host c.args.net.now c.ship_and_vote.new.net c.args.power.now c.one_stops.new.power c.ship_and_vote.new.power (omega arith)
    c.ship_and_vote.result c.args.epoch c.args.pieces.now k c.one_stops.new.members c.ship_and_vote.new.members none c.ship_and_vote.ensures.rest c.ship_and_vote.ensures.decided

pub returns-clause-files : goal.returns-clause-files
returns-clause-files g c = subst (λ (k : Members). DecidesFiles g.H.Host c.ship_and_vote.result c.args.epoch c.args.pieces.now k c.args.host.now c.ship_and_vote.new.host) (c.in_ok-one_stops.ensures.none c.if-branch.false) c.ship_and_vote.ensures.files

pub returns-clause-rest : goal.returns-clause-rest
returns-clause-rest g c =
    let k : Members = c.args.members.now in
    let mid : Members = c.one_stops.new.members in
    stays_then g.H.Host g.N.Net g.P.Power k mid c.ship_and_vote.new.members c.args.host.now c.args.host.now c.ship_and_vote.new.host c.args.net.now c.args.net.now c.ship_and_vote.new.net
    c.args.power.now c.one_stops.new.power c.ship_and_vote.new.power (ap (λ (x : Members). x.voters) (c.in_ok-one_stops.ensures.none c.if-branch.false))
    (stays_stopped g.H.Host g.N.Net g.P.Power k mid c.args.host.now c.args.net.now c.args.power.now c.one_stops.new.power c.one_stops.ensures.stays (c.one_stops.ensures.power (omega arith))) c.ship_and_vote.ensures.rest
