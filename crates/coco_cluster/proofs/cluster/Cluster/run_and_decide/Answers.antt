use Rattle.std.proofs.Common.{◌≡◌, Bool, List, ℕ, Result, Ok, is_err, map, ap, refl, subst}
use Rattle.std.proofs.lemmas.Result.{err_from_is_err_and, IfOk-from_err}
use Rattle.coco_entry.specs.declared.layout.Layout.{Layout}
use Rattle.coco_lost.specs.Requests.{AreRequestsOf}
use Rattle.coco_letters.specs.Around.{Around, around}
use Rattle.coco_parallel.specs.Traces.{traced}
use Rattle.coco_types.specs.declared.call.Request.{Request}
use Rattle.coco_vote.proofs.PowerLemmas.{later_same as asked_same}
use Rattle.coco_cluster.specs.Stepping.{IsVotedFor}
use Rattle.coco_cluster.specs.Trying.{ComesOn}
use Rattle.coco_cluster.specs.declared.cluster.Cluster.{Cluster}
use Rattle.coco_cluster.specs.declared.stop.Stop.{Stop}
use Rattle.coco_cluster.proofs.AroundLemmas.{later_same}
use Rattle.coco_cluster.proofs.TriedLemmas.{been_run, begun_run, decided_files, entered, given_up_so, may_commit, may_go_on, quiet_mid, ring_run, shippable_run, stays_tried, tried_in_vain, voted_so}
use Rattle.coco_cluster.proofs.TryLemmas.{may_try}
use Rattle.coco_cluster.proofs.cluster.Cluster.run_and_decide.Goals as goal

pub run_requests-requires-clause-may : goal.run_requests-requires-clause-may
run_requests-requires-clause-may g c _ _ = may_try c.args.self.now (g.N.Net.sent c.args.net.now) c.args.requests.items c.args.workers c.args.attempts c.config_of-config.result c.requires.sound c.requires.up c.requires.may c.requires.workers c.requires.attempts c.config_of-config.ensures

pub decide-requires : goal.decide-requires
decide-requires g c =
    let run = been_run c.args.self.now (g.N.Net.sent c.args.net.now) c.args.requests.items c.args.workers c.args.attempts c.config_of-config.result (g.N.Net.carries c.args.net.now) c.run_requests.new.tables c.in_ok-dones.field-0.dones c.in_ok-dones.field-0.pieces c.as_slice-2.result.now (traced c.in_ok-dones.field-0.trace)
    c.config_of-config.ensures c.as_slice-2.ensures c.requires.sound c.requires.up c.requires.may c.in_ok-dones.ensures.ran c.run_requests.ensures.keep c.in_ok-dones.ensures.shippable c.in_ok-dones.ensures.begun c.run_requests.ensures.places in
    record { quiet = quiet_mid run; ring = ring_run run; pieces = shippable_run run; begun = begun_run run; ready = c.requires.ready }

-- ---- without memory for the run

pub returns-in_err-ids-clause-files : goal.returns-in_err-ids-clause-files
returns-in_err-ids-clause-files g c =
    let k : Cluster = c.args.self.now in
    let p = err_from_is_err_and c.from_residual.result c.from_residual.ensures.1 in
    tried_in_vain g.H.Host g.met.H.Host.only_now c.from_residual.result c.args.requests.items c.args.workers c.args.attempts k k c.args.host.now (ap is_err p.1)

pub returns-in_err-ids-clause-rest : goal.returns-in_err-ids-clause-rest
returns-in_err-ids-clause-rest g c =
    record { procs = refl; trace = refl; others = λ other away stands. stands; said = refl; stream = refl; later = later_same (around g.N.Net g.P.Power c.args.net.now c.args.power.now) }

pub returns-in_err-ids-clause-power : goal.returns-in_err-ids-clause-power
returns-in_err-ids-clause-power g c = asked_same g.P.Power c.args.power.now

pub returns-in_err-dones-clause-files : goal.returns-in_err-dones-clause-files
returns-in_err-dones-clause-files g c =
    let k : Cluster = c.args.self.now in
    let p = err_from_is_err_and c.from_residual-in_err-dones.result c.from_residual-in_err-dones.ensures.1 in
    tried_in_vain g.H.Host g.met.H.Host.only_now c.from_residual-in_err-dones.result c.args.requests.items c.args.workers c.args.attempts k (record k { kept = c.run_requests.new.kept; members = record k.members { tables = c.run_requests.new.tables }; room = c.run_requests.new.room }) c.args.host.now (ap is_err p.1)

pub returns-in_err-dones-clause-rest : goal.returns-in_err-dones-clause-rest
returns-in_err-dones-clause-rest g c =
    record { procs = refl; trace = refl; others = λ other away stands. stands; said = refl; stream = refl; later = later_same (around g.N.Net g.P.Power c.args.net.now c.args.power.now) }

pub returns-in_err-dones-clause-power : goal.returns-in_err-dones-clause-power
returns-in_err-dones-clause-power g c = asked_same g.P.Power c.args.power.now

-- ---- or with a fault of the disk

pub returns-in_err-all-clause-files : goal.returns-in_err-all-clause-files
returns-in_err-all-clause-files g c d rests stands room =
    let k : Cluster = c.args.self.now in
    let run = been_run c.args.self.now (g.N.Net.sent c.args.net.now) c.args.requests.items c.args.workers c.args.attempts c.config_of-config.result (g.N.Net.carries c.args.net.now) c.run_requests.new.tables c.in_ok-dones.field-0.dones c.in_ok-dones.field-0.pieces c.as_slice-2.result.now (traced c.in_ok-dones.field-0.trace)
    c.config_of-config.ensures c.as_slice-2.ensures c.requires.sound c.requires.up c.requires.may c.in_ok-dones.ensures.ran c.run_requests.ensures.keep c.in_ok-dones.ensures.shippable c.in_ok-dones.ensures.begun c.run_requests.ensures.places in
    let new : Cluster = record k { kept = c.run_requests.new.kept; members = c.decide.new.members; body = c.decide.new.body; room = c.run_requests.new.room } in
    let p = err_from_is_err_and c.from_residual-in_err-all.result c.from_residual-in_err-all.ensures.1 in (
      (decided_files run g.H.Host c.decide.result c.args.host.now c.decide.new.host c.decide.ensures.files c.a_run_is_the_next_commit.ensures (record { may = c.a_run_may_be_prepared.ensures.may; ready = c.a_run_may_be_prepared.ensures.ready }) c.requires.some c.requires.below d rests stands room).0,
      IfOk-from_err c.from_residual-in_err-all.result (λ tried. ComesOn tried d c.args.requests.items c.args.workers c.args.attempts k.next_epoch new.members.tables (g.H.Host.reads c.decide.new.host) (g.H.Host.may_leave c.decide.new.host)) (ap is_err p.1),
    )

pub returns-in_err-all-clause-rest : goal.returns-in_err-all-clause-rest
returns-in_err-all-clause-rest g c =
    record { procs = refl; trace = refl; others = c.decide.ensures.rest.others; said = c.decide.ensures.rest.said; stream = c.decide.ensures.rest.stream; later = c.decide.ensures.rest.later }

-- ---- all have voted

pub returns-then-all-clause-tried : goal.returns-then-all-clause-tried
returns-then-all-clause-tried g c =
    let k : Cluster = c.args.self.now in
    let run = been_run c.args.self.now (g.N.Net.sent c.args.net.now) c.args.requests.items c.args.workers c.args.attempts c.config_of-config.result (g.N.Net.carries c.args.net.now) c.run_requests.new.tables c.in_ok-dones.field-0.dones c.in_ok-dones.field-0.pieces c.as_slice-2.result.now (traced c.in_ok-dones.field-0.trace)
    c.config_of-config.ensures c.as_slice-2.ensures c.requires.sound c.requires.up c.requires.may c.in_ok-dones.ensures.ran c.run_requests.ensures.keep c.in_ok-dones.ensures.shippable c.in_ok-dones.ensures.begun c.run_requests.ensures.places in
    let new : Cluster = record k { kept = c.run_requests.new.kept; members = c.decide.new.members; body = c.decide.new.body; room = c.run_requests.new.room } in
    let a : Around = around g.N.Net g.P.Power c.args.net.now c.args.power.now in
    let b : Around = around g.N.Net g.P.Power c.decide.new.net c.decide.new.power in
    let r : Result Bool Stop = Ok c.in_ok-all.all in
    let decided = c.in_ok-all.ensures.decided in
    record {
      comes = λ m has. voted_so run new refl c.run_requests.ensures.kept refl refl refl decided.places (g.N.Net.sent c.decide.new.net) m has c.in_ok-dones.ensures.room (rw c.if-all.true at decided.decides);
      cause = tt;
      voted = subst (λ (layout : Layout). IsVotedFor layout k.next_epoch 2 5 a b) c.run_requests.ensures.places.layout (rw c.if-all.true at decided.voted);
      steps = decided.steps;
      entries = λ d e rests stands room behind. entered run g.H.Host r c.args.host.now c.decide.new.host c.in_ok-all.ensures.files c.a_run_is_the_next_commit.ensures
          (record { may = c.a_run_may_be_prepared.ensures.may; ready = c.a_run_may_be_prepared.ensures.ready }) c.requires.some c.requires.below d rests stands room
          e (g.P.Power.stopped c.args.power.now) (g.P.Power.stopped c.decide.new.power) c.decide.new.members (g.N.Net.sent c.decide.new.net) decided.entries behind;
      stays = stays_tried run new refl c.run_requests.ensures.kept refl refl refl decided.places;
      whole = decided.whole;
      ready = decided.ready;
    }

pub returns-then-all-clause-files : goal.returns-then-all-clause-files
returns-then-all-clause-files g c d rests stands room =
    let run = been_run c.args.self.now (g.N.Net.sent c.args.net.now) c.args.requests.items c.args.workers c.args.attempts c.config_of-config.result (g.N.Net.carries c.args.net.now) c.run_requests.new.tables c.in_ok-dones.field-0.dones c.in_ok-dones.field-0.pieces c.as_slice-2.result.now (traced c.in_ok-dones.field-0.trace)
    c.config_of-config.ensures c.as_slice-2.ensures c.requires.sound c.requires.up c.requires.may c.in_ok-dones.ensures.ran c.run_requests.ensures.keep c.in_ok-dones.ensures.shippable c.in_ok-dones.ensures.begun c.run_requests.ensures.places in
    let r : Result Bool Stop = Ok c.in_ok-all.all in
    let decided = decided_files run g.H.Host r c.args.host.now c.decide.new.host c.in_ok-all.ensures.files c.a_run_is_the_next_commit.ensures (record { may = c.a_run_may_be_prepared.ensures.may; ready = c.a_run_may_be_prepared.ensures.ready }) c.requires.some c.requires.below d rests stands room in (
      decided.0,
      may_commit run g.H.Host r c.args.host.now c.decide.new.host c.in_ok-all.ensures.files c.a_run_is_the_next_commit.ensures (record { may = c.a_run_may_be_prepared.ensures.may; ready = c.a_run_may_be_prepared.ensures.ready }) c.requires.some c.requires.below d rests stands room
          c.decide.new.members.tables (rw c.if-all.true at decided.1) (rw c.if-all.true at c.in_ok-all.ensures.decided.give),
    )

pub returns-then-all-clause-rest : goal.returns-then-all-clause-rest
returns-then-all-clause-rest g c =
    record { procs = refl; trace = refl; others = c.decide.ensures.rest.others; said = c.decide.ensures.rest.said; stream = c.decide.ensures.rest.stream; later = c.decide.ensures.rest.later }

-- ---- it is given up

pub returns-in_err-requests-clause-files : goal.returns-in_err-requests-clause-files
returns-in_err-requests-clause-files g c d rests stands room =
    let k : Cluster = c.args.self.now in
    let run = been_run c.args.self.now (g.N.Net.sent c.args.net.now) c.args.requests.items c.args.workers c.args.attempts c.config_of-config.result (g.N.Net.carries c.args.net.now) c.run_requests.new.tables c.in_ok-dones.field-0.dones c.in_ok-dones.field-0.pieces c.as_slice-2.result.now (traced c.in_ok-dones.field-0.trace)
    c.config_of-config.ensures c.as_slice-2.ensures c.requires.sound c.requires.up c.requires.may c.in_ok-dones.ensures.ran c.run_requests.ensures.keep c.in_ok-dones.ensures.shippable c.in_ok-dones.ensures.begun c.run_requests.ensures.places in
    let new : Cluster = record k { kept = c.run_requests.new.kept; members = c.decide.new.members; body = c.decide.new.body; room = c.run_requests.new.room } in
    let p = err_from_is_err_and c.from_residual-in_err-requests.result c.from_residual-in_err-requests.ensures.1 in (
      (decided_files run g.H.Host c.decide.result c.args.host.now c.decide.new.host c.decide.ensures.files c.a_run_is_the_next_commit.ensures (record { may = c.a_run_may_be_prepared.ensures.may; ready = c.a_run_may_be_prepared.ensures.ready }) c.requires.some c.requires.below d rests stands room).0,
      IfOk-from_err c.from_residual-in_err-requests.result (λ tried. ComesOn tried d c.args.requests.items c.args.workers c.args.attempts k.next_epoch new.members.tables (g.H.Host.reads c.decide.new.host) (g.H.Host.may_leave c.decide.new.host)) (ap is_err p.1),
    )

pub returns-in_err-requests-clause-rest : goal.returns-in_err-requests-clause-rest
returns-in_err-requests-clause-rest g c =
    record { procs = refl; trace = refl; others = c.decide.ensures.rest.others; said = c.decide.ensures.rest.said; stream = c.decide.ensures.rest.stream; later = c.decide.ensures.rest.later }

pub returns-clause-tried : goal.returns-clause-tried
returns-clause-tried g c =
    let k : Cluster = c.args.self.now in
    let run = been_run c.args.self.now (g.N.Net.sent c.args.net.now) c.args.requests.items c.args.workers c.args.attempts c.config_of-config.result (g.N.Net.carries c.args.net.now) c.run_requests.new.tables c.in_ok-dones.field-0.dones c.in_ok-dones.field-0.pieces c.as_slice-2.result.now (traced c.in_ok-dones.field-0.trace)
    c.config_of-config.ensures c.as_slice-2.ensures c.requires.sound c.requires.up c.requires.may c.in_ok-dones.ensures.ran c.run_requests.ensures.keep c.in_ok-dones.ensures.shippable c.in_ok-dones.ensures.begun c.run_requests.ensures.places in
    let new : Cluster = record k { kept = c.run_requests.new.kept; members = c.decide.new.members; body = c.decide.new.body; room = c.run_requests.new.room } in
    let r : Result Bool Stop = Ok c.in_ok-all.all in
    let decided = c.in_ok-all.ensures.decided in
    record {
      comes = λ m has. given_up_so run new refl c.run_requests.ensures.kept refl refl refl decided.places (g.N.Net.sent c.decide.new.net) m c.in_ok-ids.ids.items c.in_ok-requests.requests.items has c.decide.ensures.rest.shards (rw c.if-all.false at decided.decides)
          (subst (λ (rs : List Request). c.in_ok-ids.ids.items ≡ map (λ (r : Request). r.id) rs) c.as_slice.ensures.value c.in_ok-ids.ensures) (subst (λ (ids : List ℕ). (rs : List Request) → AreRequestsOf ids c.in_ok-dones.field-0.dones rs → c.in_ok-requests.requests.items ≡ rs) c.as_slice-3.ensures.value c.in_ok-requests.ensures);
      cause = rw c.if-all.false at decided.cause;
      voted = tt;
      steps = decided.steps;
      entries = λ d e rests stands room behind. entered run g.H.Host r c.args.host.now c.decide.new.host c.in_ok-all.ensures.files c.a_run_is_the_next_commit.ensures
          (record { may = c.a_run_may_be_prepared.ensures.may; ready = c.a_run_may_be_prepared.ensures.ready }) c.requires.some c.requires.below d rests stands room
          e (g.P.Power.stopped c.args.power.now) (g.P.Power.stopped c.decide.new.power) c.decide.new.members (g.N.Net.sent c.decide.new.net) decided.entries behind;
      stays = stays_tried run new refl c.run_requests.ensures.kept refl refl refl decided.places;
      whole = decided.whole;
      ready = decided.ready;
    }

pub returns-clause-files : goal.returns-clause-files
returns-clause-files g c d rests stands room =
    let run = been_run c.args.self.now (g.N.Net.sent c.args.net.now) c.args.requests.items c.args.workers c.args.attempts c.config_of-config.result (g.N.Net.carries c.args.net.now) c.run_requests.new.tables c.in_ok-dones.field-0.dones c.in_ok-dones.field-0.pieces c.as_slice-2.result.now (traced c.in_ok-dones.field-0.trace)
    c.config_of-config.ensures c.as_slice-2.ensures c.requires.sound c.requires.up c.requires.may c.in_ok-dones.ensures.ran c.run_requests.ensures.keep c.in_ok-dones.ensures.shippable c.in_ok-dones.ensures.begun c.run_requests.ensures.places in
    let r : Result Bool Stop = Ok c.in_ok-all.all in
    let decided = decided_files run g.H.Host r c.args.host.now c.decide.new.host c.in_ok-all.ensures.files c.a_run_is_the_next_commit.ensures (record { may = c.a_run_may_be_prepared.ensures.may; ready = c.a_run_may_be_prepared.ensures.ready }) c.requires.some c.requires.below d rests stands room in (
      decided.0,
      may_go_on run g.H.Host r c.args.host.now c.decide.new.host c.in_ok-all.ensures.files c.a_run_is_the_next_commit.ensures (record { may = c.a_run_may_be_prepared.ensures.may; ready = c.a_run_may_be_prepared.ensures.ready }) c.requires.some c.requires.below d rests stands room
          c.decide.new.members.tables (rw c.if-all.false at decided.1) c.decide.ensures.rest.keep,
    )

pub returns-clause-rest : goal.returns-clause-rest
returns-clause-rest g c =
    record { procs = refl; trace = refl; others = c.decide.ensures.rest.others; said = c.decide.ensures.rest.said; stream = c.decide.ensures.rest.stream; later = c.decide.ensures.rest.later }
