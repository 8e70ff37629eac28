use Rattle.std.proofs.Common.{◌+◌, [], arith, length, ◌∙◌, is_err, ap, refl, sym, subst}
use Rattle.std.proofs.lemmas.Result.{err_from_is_err_and}
use Rattle.coco_letters.specs.Around.{Around, around}
use Rattle.coco_members.specs.AtRest.{NoneBehind, scene_of}
use Rattle.coco_members.specs.declared.members.Members.{Members}
use Rattle.coco_vote.specs.Taking.{AreReady, IsElsewhere}
use Rattle.coco_cluster.specs.Standing.{IsSound}
use Rattle.coco_cluster.specs.Trying.{TriesFiles}
use Rattle.coco_cluster.specs.Turning.{MayTurn}
use Rattle.coco_cluster.specs.declared.cluster.Cluster.{Cluster}
use Rattle.coco_cluster.proofs.AskLemmas.{asked_none}
use Rattle.coco_cluster.proofs.AroundLemmas.{gives_stopped, later_still, later_then}
use Rattle.coco_cluster.proofs.DecideLemmas.{idle_keeps, stay_stopped}
use Rattle.coco_cluster.proofs.DecidedLemmas.{tried_before, NoneStops}
use Rattle.coco_cluster.proofs.EntryLemmas.{on_later, on_rests, on_same}
use Rattle.coco_cluster.proofs.RestLemmas.{rest_is_quiet}
use Rattle.coco_cluster.proofs.StepLemmas.{steps_later, steps_same}
use Rattle.coco_cluster.proofs.StopLemmas.{logs_ready}
use Rattle.coco_cluster.proofs.TriedLemmas.{stopped_keeps, stopped_on, tried_in_vain}
use Rattle.coco_cluster.proofs.cluster.Cluster.try_epoch.Goals as goal

pub one_stops-requires-clause-quiet : goal.one_stops-requires-clause-quiet
one_stops-requires-clause-quiet g c = (g.N.Net.sent c.args.net.now, rest_is_quiet c.args.self.now.next_epoch (g.N.Net.sent c.args.net.now) c.args.self.now.members c.requires.sound.rests.rest)

-- ---- a node that stops, or no memory for that

pub returns-in_err-one_stops-clause-files : goal.returns-in_err-one_stops-clause-files
returns-in_err-one_stops-clause-files g c =
    let k : Cluster = c.args.self.now in
    let p = err_from_is_err_and c.from_residual.result c.from_residual.ensures.1 in
    tried_in_vain g.H.Host g.met.H.Host.only_now c.from_residual.result c.args.requests.items c.args.workers c.args.attempts k (record k { members = c.one_stops.new.members }) c.args.host.now (ap is_err p.1)

pub returns-in_err-one_stops-clause-rest : goal.returns-in_err-one_stops-clause-rest
returns-in_err-one_stops-clause-rest g c =
    let a : Around = around g.N.Net g.P.Power c.args.net.now c.args.power.now in
    let b : Around = around g.N.Net g.P.Power c.args.net.now c.one_stops.new.power in
    record { procs = refl; trace = refl; others = λ other away stands. stands; said = refl; stream = refl; later = later_still a b refl refl refl refl c.one_stops.ensures.counts.early_rises }

pub returns-then-branch-clause-tried : goal.returns-then-branch-clause-tried
returns-then-branch-clause-tried g c =
    let k : Cluster = c.args.self.now in
    let mid : Members = c.one_stops.new.members in
    let n = k.next_epoch in
    let sent = g.N.Net.sent c.args.net.now in
    let x = scene_of k.members sent in
    let y = scene_of mid sent in
    let i = g.P.Power.stopped c.args.power.now in
    let j = g.P.Power.stopped c.one_stops.new.power in
    let a : Around = around g.N.Net g.P.Power c.args.net.now c.args.power.now in
    let b : Around = around g.N.Net g.P.Power c.args.net.now c.one_stops.new.power in
    let reads = g.H.Host.reads c.args.host.now in
    let may_leave = g.H.Host.may_leave c.args.host.now in
    record {
      comes = λ m has. record {
        same = refl;
        quiet = (rw c.if-branch.true at c.in_ok-one_stops.ensures.quiet) sent (rest_is_quiet n sent k.members c.requires.sound.rests.rest);
        keeps = stopped_keeps k.members mid m c.one_stops.ensures.stays c.requires.up has;
      };
      cause = gives_stopped a b (later_still a b refl refl refl refl c.one_stops.ensures.counts.early_rises) (rw c.if-branch.true at c.in_ok-one_stops.ensures.told);
      voted = tt;
      steps = steps_later i j n n (n + 1) [] x y (omega arith) (steps_same i j n x y c.one_stops.ensures.nodes (c.in_ok-one_stops.ensures.world sent));
      entries = λ d e rests stands room behind. on_rests d d e i j n (n + 1) [] x y reads may_leave rests behind
          (on_later d d i j n n (n + 1) [] x y (omega arith) (on_same d i j n x y c.one_stops.ensures.nodes (c.in_ok-one_stops.ensures.world sent)));
      stays = record { procs = refl; kept = refl; base = refl; next = refl; trace = refl; members = stay_stopped k.members mid c.one_stops.ensures.stays c.in_ok-one_stops.ensures.logs };
      whole = c.in_ok-one_stops.ensures.whole;
      ready = logs_ready k.members.voters.items mid.voters.items reads may_leave c.in_ok-one_stops.ensures.logs c.requires.ready;
    }

pub returns-then-branch-clause-files : goal.returns-then-branch-clause-files
returns-then-branch-clause-files g c d rests stands room = (
  idle_keeps g.H.Host g.met.H.Host.only_now d c.args.self.now.next_epoch c.args.host.now rests stands.next,
  stopped_on c.args.self.now c.one_stops.new.members d (g.H.Host.reads c.args.host.now) (g.H.Host.may_leave c.args.host.now) c.one_stops.ensures.stays c.requires.up rests stands,
)

pub returns-then-branch-clause-rest : goal.returns-then-branch-clause-rest
returns-then-branch-clause-rest g c =
    let a : Around = around g.N.Net g.P.Power c.args.net.now c.args.power.now in
    let b : Around = around g.N.Net g.P.Power c.args.net.now c.one_stops.new.power in
    record { procs = refl; trace = refl; others = λ other away stands. stands; said = refl; stream = refl; later = later_still a b refl refl refl refl c.one_stops.ensures.counts.early_rises }

-- ---- none stops

pub run_and_decide-requires-clause-sound : goal.run_and_decide-requires-clause-sound
run_and_decide-requires-clause-sound g c _ _ = subst (λ (k : Cluster). IsSound k (g.N.Net.sent c.args.net.now)) (sym (ap (λ (k : Members). record c.args.self.now { members = k }) (c.in_ok-one_stops.ensures.none c.if-branch.false))) c.requires.sound

pub run_and_decide-requires-clause-up : goal.run_and_decide-requires-clause-up
run_and_decide-requires-clause-up g c _ _ = subst (λ (k : Cluster). NoneBehind k.members.tables) (sym (ap (λ (k : Members). record c.args.self.now { members = k }) (c.in_ok-one_stops.ensures.none c.if-branch.false))) c.requires.up

pub run_and_decide-requires-clause-may : goal.run_and_decide-requires-clause-may
run_and_decide-requires-clause-may g c _ _ = subst (λ (k : Cluster). MayTurn k c.args.requests.items) (sym (ap (λ (k : Members). record c.args.self.now { members = k }) (c.in_ok-one_stops.ensures.none c.if-branch.false))) c.requires.may

pub run_and_decide-requires-clause-ready : goal.run_and_decide-requires-clause-ready
run_and_decide-requires-clause-ready g c _ _ = subst (λ (k : Cluster). AreReady k.members.voters.items (g.H.Host.reads c.args.host.now) (g.H.Host.may_leave c.args.host.now)) (sym (ap (λ (k : Members). record c.args.self.now { members = k }) (c.in_ok-one_stops.ensures.none c.if-branch.false))) c.requires.ready

pub returns-clause-tried : goal.returns-clause-tried
returns-clause-tried g c =
    let k : Cluster = c.args.self.now in
    let sent = g.N.Net.sent c.args.net.now in
    let are = c.requires.sound.rests.rest.are in
    let none : NoneStops g.P.Power 1 sent k.members c.one_stops.new.members c.args.power.now c.one_stops.new.power = record {
      are = are;
      same = c.in_ok-one_stops.ensures.none c.if-branch.false;
      early = rw c.if-branch.false at c.in_ok-one_stops.ensures.told;
      asked = λ n lt. asked_none c.in_ok-one_stops.field-0 (length k.members.cores.items) 1 (g.P.Power.stopped c.args.power.now) (g.P.Power.stopped c.one_stops.new.power) (g.P.Power.asked c.args.power.now) (g.P.Power.asked c.one_stops.new.power)
          c.if-branch.false are.few (omega arith) c.in_ok-one_stops.ensures.asked n (omega (arith, lt, are.layout));
      world = c.in_ok-one_stops.ensures.world sent;
      whole = c.in_ok-one_stops.ensures.whole;
    } in
    tried_before g.H.Host g.N.Net g.P.Power 1 c.args.host.now c.run_and_decide.new.host c.args.net.now c.run_and_decide.new.net c.args.power.now c.one_stops.new.power c.run_and_decide.new.power (omega arith)
    c.run_and_decide.result c.args.requests.items c.args.workers c.args.attempts k c.run_and_decide.new.self c.one_stops.new.members none c.run_and_decide.ensures.rest c.run_and_decide.ensures.power c.run_and_decide.ensures.tried

pub returns-clause-files : goal.returns-clause-files
returns-clause-files g c = subst (λ (k : Cluster). TriesFiles g.H.Host c.run_and_decide.result c.args.requests.items c.args.workers c.args.attempts k c.run_and_decide.new.self c.args.host.now c.run_and_decide.new.host) (ap (λ (k : Members). record c.args.self.now { members = k }) (c.in_ok-one_stops.ensures.none c.if-branch.false)) c.run_and_decide.ensures.files

pub returns-clause-rest : goal.returns-clause-rest
returns-clause-rest g c =
    let a : Around = around g.N.Net g.P.Power c.args.net.now c.args.power.now in
    let m : Around = around g.N.Net g.P.Power c.args.net.now c.one_stops.new.power in
    let b : Around = around g.N.Net g.P.Power c.run_and_decide.new.net c.run_and_decide.new.power in
    let rest = c.run_and_decide.ensures.rest in
    record {
      procs = rest.procs;
      trace = rest.trace;
      others = λ other away. rest.others other (subst (λ (k : Members). IsElsewhere other k.voters.items) (sym (c.in_ok-one_stops.ensures.none c.if-branch.false)) away);
      said = rest.said;
      stream = rest.stream;
      later = later_then a m b (later_still a m refl refl refl refl c.one_stops.ensures.counts.early_rises) rest.later;
    }

pub returns-clause-begun : goal.returns-clause-begun
returns-clause-begun g c = c.run_and_decide.ensures.power.begun_stays ∙ c.one_stops.ensures.begun
