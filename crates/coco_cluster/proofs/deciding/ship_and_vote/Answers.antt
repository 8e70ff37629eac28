use Rattle.std.proofs.Common.{◌≡◌, ◌+◌, [], refl, true≢false, is_err, length, ap, sym, subst, ◌∙◌, arith}
use Rattle.std.proofs.lemmas.Result.{err_from_is_err_and, IfOk-from_err}
use Rattle.coco_ast.specs.History.{rows_after}
use Rattle.coco_chief.specs.Chief.{Chief}
use Rattle.coco_chief.specs.Shown.{chief_of}
use Rattle.coco_finish.specs.declared.tables.NodeTables.{NodeTables}
use Rattle.coco_letters.specs.Around.{Around, IsLater, around}
use Rattle.coco_members.specs.AtRest.{scene_of}
use Rattle.coco_members.specs.declared.members.Members.{Members}
use Rattle.coco_trial.specs.Running.{GiveAll}
use Rattle.coco_vote.specs.Preparing.{Ballot, RestsVoted, have_durable}
use Rattle.coco_vote.specs.Taking.{AreHeld, AreReady, HaveLogs}
use Rattle.coco_cluster.specs.Trying.{ballot_on, RestsDecided}
use Rattle.coco_cluster.proofs.AskLemmas.{voted_shipped}
use Rattle.coco_cluster.proofs.AroundLemmas.{gives_silent, later_used}
use Rattle.coco_cluster.proofs.DecidedLemmas.{stays_shipped, stays_then, stays_voting}
use Rattle.coco_cluster.proofs.EntryLemmas.{on_after, on_later, on_rests, on_same, on_voted}
use Rattle.coco_cluster.proofs.DecideLemmas.{cause_so, decides_so, failed_files, idle_keeps, rests_decided, rests_now, silent_quiet, stay_shipped, stay_voted, writes_voted}
use Rattle.coco_cluster.proofs.SeeingLemmas.{keeps_voted}
use Rattle.coco_cluster.proofs.StepLemmas.{steps_after, steps_later, steps_on, steps_voted}
use Rattle.coco_cluster.proofs.StopLemmas.{lose_none, lose_then}
use Rattle.coco_cluster.proofs.deciding.ship_and_vote.Goals as goal

pub vote-requires-clause-may : goal.vote-requires-clause-may
vote-requires-clause-may g c = c.in_ok-are_shipped.ensures.may

pub vote-requires-clause-ready : goal.vote-requires-clause-ready
vote-requires-clause-ready g c = subst (λ (k : Members). AreReady k.voters.items (g.H.Host.reads c.args.host.now) (g.H.Host.may_leave c.args.host.now)) (sym c.are_shipped.ensures.stays) c.requires.ready

-- ---- without memory for the ship phase

pub returns-in_err-are_shipped-clause-files : goal.returns-in_err-are_shipped-clause-files
returns-in_err-are_shipped-clause-files g c =
    let p = err_from_is_err_and c.from_residual.result c.from_residual.ensures.1 in
    failed_files g.H.Host g.met.H.Host.only_now c.from_residual.result c.args.epoch c.args.pieces.now c.args.members.now c.args.host.now (ap is_err p.1)

pub returns-in_err-are_shipped-clause-rest : goal.returns-in_err-are_shipped-clause-rest
returns-in_err-are_shipped-clause-rest g c = stays_shipped g.H.Host g.N.Net g.P.Power c.args.members.now c.are_shipped.new.members c.args.host.now c.args.net.now c.are_shipped.new.net c.args.power.now
    c.are_shipped.ensures.shards c.are_shipped.ensures.keep c.are_shipped.ensures.sent c.are_shipped.ensures.net

-- ---- a copy doesn't answer

pub returns-then-not-branch-clause-decided : goal.returns-then-not-branch-clause-decided
returns-then-not-branch-clause-decided g c =
    let k : Members = c.args.members.now in
    let mid : Members = c.are_shipped.new.members in
    let epoch = c.args.epoch in
    let i = g.P.Power.stopped c.args.power.now in
    let x = scene_of k (g.N.Net.sent c.args.net.now) in
    let y = scene_of mid (g.N.Net.sent c.are_shipped.new.net) in
    let a : Around = around g.N.Net g.P.Power c.args.net.now c.args.power.now in
    let b : Around = around g.N.Net g.P.Power c.are_shipped.new.net c.args.power.now in
    let reads = g.H.Host.reads c.args.host.now in
    let may_leave = g.H.Host.may_leave c.args.host.now in
    let nodes : length mid.cores.items ≡ length k.cores.items = ap (λ (n : Members). length n.cores.items) c.are_shipped.ensures.stays in
    let silent = c.in_ok-are_shipped.ensures.silent c.if-not-branch.true in
    record {
      decides = silent_quiet epoch (g.N.Net.sent c.are_shipped.new.net) mid c.in_ok-are_shipped.ensures.may;
      cause = gives_silent a b (later_used a b c.are_shipped.ensures.sent c.are_shipped.ensures.net (omega arith)) silent.lost silent.awaits;
      voted = tt;
      steps = steps_later i i epoch epoch (epoch + 1) [] x y (omega arith) (steps_on i epoch x y nodes c.in_ok-are_shipped.ensures.world);
      entries = λ d e hold held may_force at logs rests behind. on_rests d d e i i epoch (epoch + 1) [] x y reads may_leave rests behind
          (on_later d d i i epoch epoch (epoch + 1) [] x y (omega arith) (on_same d i i epoch x y nodes (c.in_ok-are_shipped.ensures.world i)));
      places = stay_shipped k mid c.are_shipped.ensures.stays c.are_shipped.ensures.places;
      whole = lose_none (g.P.Power.stops_seen c.args.power.now) k.voters.items mid.voters.items (ap (λ (n : Members). n.voters.items) c.are_shipped.ensures.stays);
      give = λ is. absurd (true≢false (sym is));
      ready = subst (λ (n : Members). AreReady n.voters.items reads may_leave) (sym c.are_shipped.ensures.stays) c.requires.ready;
    }

pub returns-then-not-branch-clause-files : goal.returns-then-not-branch-clause-files
returns-then-not-branch-clause-files g c d hold after gives held may nodes logs rests behind = (
  idle_keeps g.H.Host g.met.H.Host.only_now d c.args.epoch c.args.host.now rests behind,
  rests_now d c.args.epoch (g.H.Host.reads c.args.host.now) (g.H.Host.may_leave c.args.host.now) rests behind,
)

pub returns-then-not-branch-clause-rest : goal.returns-then-not-branch-clause-rest
returns-then-not-branch-clause-rest g c = stays_shipped g.H.Host g.N.Net g.P.Power c.args.members.now c.are_shipped.new.members c.args.host.now c.args.net.now c.are_shipped.new.net c.args.power.now
    c.are_shipped.ensures.shards c.are_shipped.ensures.keep c.are_shipped.ensures.sent c.are_shipped.ensures.net

-- ---- without memory for the vote, or with a fault of the disk

pub returns-in_err-all-clause-files : goal.returns-in_err-all-clause-files
returns-in_err-all-clause-files g c d hold after gives held may nodes logs rests behind =
    let k : Members = c.are_shipped.new.members in
    let b : Ballot = ballot_on c.args.epoch c.args.pieces.now hold in
    let now : k ≡ record c.args.members.now { tables = k.tables } = c.are_shipped.ensures.stays in
    let logs_now : HaveLogs d k.voters.items = subst (λ (x : Members). HaveLogs d x.voters.items) (sym now) logs in
    let nodes_now : d.setting.entry.layout.nodes ≡ length k.cores.items = nodes ∙ sym (ap (λ (x : Members). length x.cores.items) now) in
    let voted = c.vote.ensures.files d hold (subst (λ (x : Members). AreHeld hold x.voters.items) (sym now) held) may nodes_now logs_now rests in
    let writes = writes_voted d k (g.H.Host.reads c.args.host.now) (g.H.Host.reads c.vote.new.host) (g.H.Host.may_leave c.args.host.now) (g.H.Host.may_leave c.vote.new.host) rests c.in_ok-are_shipped.ensures.may.are nodes_now logs_now c.vote.ensures.rest.read c.vote.ensures.rest.crash in
    let p = err_from_is_err_and c.from_residual-in_err-all.result c.from_residual-in_err-all.ensures.1 in (
      keeps_voted d b behind g.H.Host c.args.host.now c.vote.new.host voted.keeps writes,
      IfOk-from_err c.from_residual-in_err-all.result (λ all. RestsDecided all d b (g.H.Host.reads c.vote.new.host) (g.H.Host.may_leave c.vote.new.host)) (ap is_err p.1),
    )

pub returns-in_err-all-clause-rest : goal.returns-in_err-all-clause-rest
returns-in_err-all-clause-rest g c =
    let k : Members = c.args.members.now in
    let mid : Members = c.are_shipped.new.members in
    stays_then g.H.Host g.N.Net g.P.Power k mid c.vote.new.members c.args.host.now c.args.host.now c.vote.new.host c.args.net.now c.are_shipped.new.net c.vote.new.net c.args.power.now c.args.power.now c.vote.new.power
    (ap (λ (x : Members). x.voters) c.are_shipped.ensures.stays)
    (stays_shipped g.H.Host g.N.Net g.P.Power k mid c.args.host.now c.args.net.now c.are_shipped.new.net c.args.power.now c.are_shipped.ensures.shards c.are_shipped.ensures.keep c.are_shipped.ensures.sent c.are_shipped.ensures.net)
    (stays_voting g.H.Host g.N.Net g.P.Power mid c.vote.new.members c.args.host.now c.vote.new.host c.are_shipped.new.net c.vote.new.net c.args.power.now c.vote.new.power
    c.vote.ensures.keeps.tables c.vote.ensures.rest.others c.vote.ensures.rest.said c.vote.ensures.rest.stream c.vote.ensures.rest.letters.sends c.vote.ensures.rest.letters.gives c.vote.ensures.rest.later)

-- ---- decided

pub returns-clause-decided : goal.returns-clause-decided
returns-clause-decided g c =
    let k : Members = c.args.members.now in
    let mid : Members = c.are_shipped.new.members in
    let new : Members = c.vote.new.members in
    let epoch = c.args.epoch in
    let i = g.P.Power.stopped c.args.power.now in
    let j = g.P.Power.stopped c.vote.new.power in
    let x = scene_of k (g.N.Net.sent c.args.net.now) in
    let y = scene_of mid (g.N.Net.sent c.are_shipped.new.net) in
    let z = scene_of new (g.N.Net.sent c.vote.new.net) in
    let a : Around = around g.N.Net g.P.Power c.args.net.now c.args.power.now in
    let m : Around = around g.N.Net g.P.Power c.are_shipped.new.net c.args.power.now in
    let b : Around = around g.N.Net g.P.Power c.vote.new.net c.vote.new.power in
    let shipped : IsLater a m = later_used a m c.are_shipped.ensures.sent c.are_shipped.ensures.net (omega arith) in
    let asked : IsLater m b = later_used m b c.vote.ensures.rest.letters.sends c.vote.ensures.rest.letters.gives c.vote.ensures.rest.later.early_rises in
    let chief : Chief = chief_of new.chief in
    let now : mid ≡ record k { tables = mid.tables } = c.are_shipped.ensures.stays in
    let same : length mid.cores.items ≡ length k.cores.items = ap (λ (n : Members). length n.cores.items) now in
    let seen = g.P.Power.stops_seen c.args.power.now in
    let seen_new = g.P.Power.stops_seen c.vote.new.power in
    record {
      decides = decides_so c.in_ok-all.all epoch (g.N.Net.sent c.vote.new.net) k mid new c.are_shipped.ensures.places.layout c.are_shipped.ensures.shards c.in_ok-all.ensures.decided;
      cause = cause_so c.in_ok-all.all epoch new.cores.items chief a m b shipped asked c.in_ok-all.ensures.comes;
      voted = voted_shipped c.in_ok-all.all k.tables.layout epoch new.cores.items chief a m b (c.requires.quiet.are.layout ∙ sym same ∙ sym c.vote.ensures.keeps.count) shipped asked refl
          (c.in_ok-are_shipped.ensures.answered c.if-not-branch.false) c.in_ok-all.ensures.comes;
      steps = steps_after i i j epoch epoch (epoch + 1) [] x y z (steps_on i epoch x y same c.in_ok-are_shipped.ensures.world) (steps_voted i j epoch y z c.vote.ensures.keeps.count c.in_ok-all.ensures.world);
      entries = λ d e hold held may nodes logs rests behind.
          let ballot : Ballot = ballot_on epoch c.args.pieces.now hold in
          let logs_now : HaveLogs d mid.voters.items = subst (λ (n : Members). HaveLogs d n.voters.items) (sym now) logs in
          let voted : RestsVoted d ballot (have_durable epoch new.cores.items) (g.H.Host.reads c.vote.new.host) (g.H.Host.may_leave c.vote.new.host) =
          (c.in_ok-all.ensures.files d hold (subst (λ (n : Members). AreHeld hold n.voters.items) (sym now) held) may (nodes ∙ sym same) logs_now rests).ok in
          on_rests d voted.contents e i j epoch (epoch + 1) [] x z (g.H.Host.reads c.vote.new.host) (g.H.Host.may_leave c.vote.new.host) voted.rests behind
          (on_after d d voted.contents i i j epoch epoch (epoch + 1) [] x y z (on_same d i i epoch x y same (c.in_ok-are_shipped.ensures.world i))
          (on_voted d voted.contents ballot i j y z c.in_ok-are_shipped.ensures.may.rest.new voted.voted c.vote.ensures.keeps.count c.in_ok-all.ensures.world));
      places = stay_voted k mid new now c.are_shipped.ensures.places c.vote.ensures.keeps c.in_ok-all.ensures.committed;
      whole = lose_then seen seen seen_new k.voters.items mid.voters.items new.voters.items (lose_none seen k.voters.items mid.voters.items (ap (λ (n : Members). n.voters.items) now))
          (record { rises = c.vote.ensures.rest.later.seen_rises; whole = c.in_ok-all.ensures.whole });
      give = λ is s dones trace number run keep. subst (λ (t : NodeTables). GiveAll (rows_after s.procs s.opening dones) t) (sym c.vote.ensures.keeps.tables)
          (c.in_ok-are_shipped.ensures.give c.if-not-branch.false s dones trace number run keep);
      ready = c.in_ok-all.ensures.ready;
    }

pub returns-clause-files : goal.returns-clause-files
returns-clause-files g c d hold after gives held may nodes logs rests behind =
    let k : Members = c.are_shipped.new.members in
    let b : Ballot = ballot_on c.args.epoch c.args.pieces.now hold in
    let now : k ≡ record c.args.members.now { tables = k.tables } = c.are_shipped.ensures.stays in
    let logs_now : HaveLogs d k.voters.items = subst (λ (x : Members). HaveLogs d x.voters.items) (sym now) logs in
    let nodes_now : d.setting.entry.layout.nodes ≡ length k.cores.items = nodes ∙ sym (ap (λ (x : Members). length x.cores.items) now) in
    let voted = c.in_ok-all.ensures.files d hold (subst (λ (x : Members). AreHeld hold x.voters.items) (sym now) held) may nodes_now logs_now rests in
    let writes = writes_voted d k (g.H.Host.reads c.args.host.now) (g.H.Host.reads c.vote.new.host) (g.H.Host.may_leave c.args.host.now) (g.H.Host.may_leave c.vote.new.host) rests c.in_ok-are_shipped.ensures.may.are nodes_now logs_now c.vote.ensures.rest.read c.vote.ensures.rest.crash in
    let m : Around = around g.N.Net g.P.Power c.are_shipped.new.net c.args.power.now in
    let n : Around = around g.N.Net g.P.Power c.vote.new.net c.vote.new.power in (
      keeps_voted d b behind g.H.Host c.args.host.now c.vote.new.host voted.keeps writes,
      rests_decided c.in_ok-all.all d b (g.N.Net.sent c.vote.new.net) c.args.members.now c.vote.new.members after m n (g.H.Host.reads c.vote.new.host) (g.H.Host.may_leave c.vote.new.host) behind
          (nodes_now ∙ sym c.vote.ensures.keeps.count) gives (returns-clause-decided g c).decides c.in_ok-all.ensures.comes voted.ok,
    )

pub returns-clause-rest : goal.returns-clause-rest
returns-clause-rest g c =
    let k : Members = c.args.members.now in
    let mid : Members = c.are_shipped.new.members in
    stays_then g.H.Host g.N.Net g.P.Power k mid c.vote.new.members c.args.host.now c.args.host.now c.vote.new.host c.args.net.now c.are_shipped.new.net c.vote.new.net c.args.power.now c.args.power.now c.vote.new.power
    (ap (λ (x : Members). x.voters) c.are_shipped.ensures.stays)
    (stays_shipped g.H.Host g.N.Net g.P.Power k mid c.args.host.now c.args.net.now c.are_shipped.new.net c.args.power.now c.are_shipped.ensures.shards c.are_shipped.ensures.keep c.are_shipped.ensures.sent c.are_shipped.ensures.net)
    (stays_voting g.H.Host g.N.Net g.P.Power mid c.vote.new.members c.args.host.now c.vote.new.host c.are_shipped.new.net c.vote.new.net c.args.power.now c.vote.new.power
    c.vote.ensures.keeps.tables c.vote.ensures.rest.others c.vote.ensures.rest.said c.vote.ensures.rest.stream c.vote.ensures.rest.letters.sends c.vote.ensures.rest.letters.gives c.vote.ensures.rest.later)
