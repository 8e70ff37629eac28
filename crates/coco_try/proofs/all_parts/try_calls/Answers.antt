use Rattle.std.proofs.Common.{◌≡◌, List, length, Err, refl, sym, ap, subst, ◌∙◌}
use Rattle.std.proofs.lemmas.Result.{err_from_is_err_and}
use Rattle.std.specs.List.{AllByRecursion}
use Rattle.coco_types.specs.declared.call.Request.{Request}
use Rattle.coco_ast.specs.Fitting.{Fits}
use Rattle.coco_cluster.specs.Around.{Around, around, spare}
use Rattle.coco_cluster.proofs.AroundLemmas.{later_same}
use Rattle.coco_gen.specs.Workload.{workload_of}
use Rattle.coco_load.specs.RowMaps.{joined, map_with}
use Rattle.coco_serve.specs.Faults.{Counts}
use Rattle.coco_cluster.specs.declared.stop.Stop.TheVariants as stop
use Rattle.coco_serve.proofs.BatchLemmas.{says_part}
use Rattle.coco_try.specs.Trying.{HasCause}
use Rattle.coco_try.specs.Work.{done_of}
use Rattle.coco_try.specs.Working.{Works}
use Rattle.coco_try.proofs.EachLemmas.{works_none}
use Rattle.coco_try.proofs.FitLemmas.{workload_fits}
use Rattle.coco_try.proofs.TellLemmas.{done_cause, text_is, told_cause, tries_cut, tries_failed, tries_told, tries_untold}
use Rattle.coco_try.proofs.all_parts.try_calls.Goals as goal

pub work_off-requires-clause-fit : goal.work_off-requires-clause-fit
work_off-requires-clause-fit g c _ _ =
    subst (AllByRecursion (λ (r : Request). Fits c.args.cluster.now.procs r.call)) (sym (c.as_slice-all.ensures.value ∙ c.in_ok-requests.ensures))
    (workload_fits c.args.cluster.now.procs c.tree-tree.ensures.accepted c.args.load.calls c.args.load.seed)

pub returns-in_err-requests : goal.returns-in_err-requests
returns-in_err-requests g c =
    let a0 : Around = around g.N.Net g.P.Power c.args.net.now c.args.power.now in
    let requests : List Request = workload_of c.args.load.calls c.args.load.seed in
    let n0 : Counts = record { say = g.H.Host.say_faults c.args.host.now; disk = g.H.Host.disk_faults c.args.host.now } in
    let p = err_from_is_err_and c.from_residual.result c.from_residual.ensures.1 in
    let is : c.from_residual.result ≡ Err stop.NoMemory = p.1 ∙ ap Err p.2 in
    record {
      later = later_same _;
      cause = subst (HasCause c.args.cluster.now.next_epoch (length requests) a0 a0 n0 n0) (sym is) tt;
      tries = λ k rests stands. tries_failed g.H.Host g.met.H.Host.seen_now k c.args.cluster.now.next_epoch (spare a0 a0) c.args.bounds requests (Err stop.NoMemory) c.args.cluster.now c.args.host.now c.args.host.now
          (works_none g.H.Host g.met.H.Host.only_now k (spare a0 a0) c.args.bounds requests c.args.cluster.now c.args.host.now rests stands) refl stop.NoMemory c.from_residual.result refl is;
    }

pub returns-in_err-worked : goal.returns-in_err-worked
returns-in_err-worked g c =
    let a0 : Around = around g.N.Net g.P.Power c.args.net.now c.args.power.now in
    let a1 : Around = around g.N.Net g.P.Power c.work_off.new.net c.work_off.new.power in
    let requests : List Request = workload_of c.args.load.calls c.args.load.seed in
    let n0 : Counts = record { say = g.H.Host.say_faults c.args.host.now; disk = g.H.Host.disk_faults c.args.host.now } in
    let n1 : Counts = record { say = g.H.Host.say_faults c.work_off.new.host; disk = g.H.Host.disk_faults c.work_off.new.host } in
    let all : c.as_slice-all.result.now ≡ requests = c.as_slice-all.ensures.value ∙ c.in_ok-requests.ensures in
    let p = err_from_is_err_and c.from_residual-in_err-worked.result c.from_residual-in_err-worked.ensures.1 in
    let f = c.in_err-worked.field-0.0 in
    let is : c.from_residual-in_err-worked.result ≡ Err f = p.1 ∙ ap Err p.2 in
    record {
      later = c.work_off.ensures.later;
      cause = subst (HasCause c.args.cluster.now.next_epoch (length requests) a0 a1 n0 n1) (ap done_of c.in_err-worked.was ∙ sym is) (subst (λ (l : List Request). HasCause c.args.cluster.now.next_epoch (length l) a0 a1 n0 n1 (done_of c.work_off.result)) all c.work_off.ensures.cause);
      tries = λ k rests stands. (
          let w : Works g.H.Host k c.args.cluster.now.next_epoch (spare a0 a1) c.args.bounds requests c.work_off.result c.work_off.new.cluster c.args.host.now c.work_off.new.host =
          subst (λ l. Works g.H.Host k c.args.cluster.now.next_epoch (spare a0 a1) c.args.bounds l c.work_off.result c.work_off.new.cluster c.args.host.now c.work_off.new.host) all (c.work_off.ensures.works k rests stands) in
          tries_failed g.H.Host g.met.H.Host.seen_now k c.args.cluster.now.next_epoch (spare a0 a1) c.args.bounds requests c.work_off.result c.work_off.new.cluster c.args.host.now c.work_off.new.host w c.work_off.ensures.said f c.from_residual-in_err-worked.result c.in_err-worked.was is);
    }

pub returns-in_err-rows : goal.returns-in_err-rows
returns-in_err-rows g c =
    let a0 : Around = around g.N.Net g.P.Power c.args.net.now c.args.power.now in
    let a1 : Around = around g.N.Net g.P.Power c.work_off.new.net c.work_off.new.power in
    let requests : List Request = workload_of c.args.load.calls c.args.load.seed in
    let n0 : Counts = record { say = g.H.Host.say_faults c.args.host.now; disk = g.H.Host.disk_faults c.args.host.now } in
    let n1 : Counts = record { say = g.H.Host.say_faults c.work_off.new.host; disk = g.H.Host.disk_faults c.work_off.new.host } in
    let all : c.as_slice-all.result.now ≡ requests = c.as_slice-all.ensures.value ∙ c.in_ok-requests.ensures in
    let p = err_from_is_err_and c.from_residual-in_err-rows.result c.from_residual-in_err-rows.ensures.1 in
    let is : c.from_residual-in_err-rows.result ≡ Err stop.NoMemory = p.1 ∙ ap Err p.2 in
    record {
      later = c.work_off.ensures.later;
      cause = subst (HasCause c.args.cluster.now.next_epoch (length requests) a0 a1 n0 n1) (sym is) tt;
      tries = λ k rests stands. (
          let w : Works g.H.Host k c.args.cluster.now.next_epoch (spare a0 a1) c.args.bounds requests c.work_off.result c.work_off.new.cluster c.args.host.now c.work_off.new.host =
          subst (λ l. Works g.H.Host k c.args.cluster.now.next_epoch (spare a0 a1) c.args.bounds l c.work_off.result c.work_off.new.cluster c.args.host.now c.work_off.new.host) all (c.work_off.ensures.works k rests stands) in
          tries_untold g.H.Host g.met.H.Host.seen_now k c.args.cluster.now.next_epoch (spare a0 a1) c.args.bounds requests c.work_off.result c.work_off.new.cluster c.args.host.now c.work_off.new.host w c.work_off.ensures.said c.in_ok-worked.worked c.in_ok-worked.was c.from_residual-in_err-rows.result is);
    }

pub returns-in_err-text : goal.returns-in_err-text
returns-in_err-text g c =
    let a0 : Around = around g.N.Net g.P.Power c.args.net.now c.args.power.now in
    let a1 : Around = around g.N.Net g.P.Power c.work_off.new.net c.work_off.new.power in
    let requests : List Request = workload_of c.args.load.calls c.args.load.seed in
    let n0 : Counts = record { say = g.H.Host.say_faults c.args.host.now; disk = g.H.Host.disk_faults c.args.host.now } in
    let n1 : Counts = record { say = g.H.Host.say_faults c.work_off.new.host; disk = g.H.Host.disk_faults c.work_off.new.host } in
    let all : c.as_slice-all.result.now ≡ requests = c.as_slice-all.ensures.value ∙ c.in_ok-requests.ensures in
    let p = err_from_is_err_and c.from_residual-in_err-text.result c.from_residual-in_err-text.ensures.1 in
    let is : c.from_residual-in_err-text.result ≡ Err stop.NoMemory = p.1 ∙ ap Err p.2 in
    record {
      later = c.work_off.ensures.later;
      cause = subst (HasCause c.args.cluster.now.next_epoch (length requests) a0 a1 n0 n1) (sym is) tt;
      tries = λ k rests stands. (
          let w : Works g.H.Host k c.args.cluster.now.next_epoch (spare a0 a1) c.args.bounds requests c.work_off.result c.work_off.new.cluster c.args.host.now c.work_off.new.host =
          subst (λ l. Works g.H.Host k c.args.cluster.now.next_epoch (spare a0 a1) c.args.bounds l c.work_off.result c.work_off.new.cluster c.args.host.now c.work_off.new.host) all (c.work_off.ensures.works k rests stands) in
          tries_untold g.H.Host g.met.H.Host.seen_now k c.args.cluster.now.next_epoch (spare a0 a1) c.args.bounds requests c.work_off.result c.work_off.new.cluster c.args.host.now c.work_off.new.host w c.work_off.ensures.said c.in_ok-worked.worked c.in_ok-worked.was c.from_residual-in_err-text.result is);
    }

pub returns-in_err-say_all : goal.returns-in_err-say_all
returns-in_err-say_all g c =
    let a0 : Around = around g.N.Net g.P.Power c.args.net.now c.args.power.now in
    let a1 : Around = around g.N.Net g.P.Power c.work_off.new.net c.work_off.new.power in
    let requests : List Request = workload_of c.args.load.calls c.args.load.seed in
    let n0 : Counts = record { say = g.H.Host.say_faults c.args.host.now; disk = g.H.Host.disk_faults c.args.host.now } in
    let n1 : Counts = record { say = g.H.Host.say_faults c.work_off.new.host; disk = g.H.Host.disk_faults c.work_off.new.host } in
    let n2 : Counts = record { say = g.H.Host.say_faults c.say_all.new.host; disk = g.H.Host.disk_faults c.say_all.new.host } in
    let all : c.as_slice-all.result.now ≡ requests = c.as_slice-all.ensures.value ∙ c.in_ok-requests.ensures in
    let p = err_from_is_err_and c.from_residual-in_err-say_all.result c.from_residual-in_err-say_all.ensures.1 in
    let same = subst (HasCause c.args.cluster.now.next_epoch (length requests) a0 a1 n0 n1) (ap done_of c.in_ok-worked.was) (subst (λ (l : List Request). HasCause c.args.cluster.now.next_epoch (length l) a0 a1 n0 n1 (done_of c.work_off.result)) all c.work_off.ensures.cause) in
    let f = c.in_err-say_all.field-0.0 in
    let text = c.as_slice.result.now in
    let is = p.1 ∙ ap Err p.2 in
    record {
      later = c.work_off.ensures.later;
      cause = subst (HasCause c.args.cluster.now.next_epoch (length requests) a0 a1 n0 n2) (sym is) (told_cause c.args.cluster.now.next_epoch (length requests) a0 a1 n0 n1 n2 c.say_all.result same c.say_all.ensures.others c.say_all.ensures.counts f c.in_err-say_all.was);
      tries = λ k rests stands. (
          let w : Works g.H.Host k c.args.cluster.now.next_epoch (spare a0 a1) c.args.bounds requests c.work_off.result c.work_off.new.cluster c.args.host.now c.work_off.new.host =
          subst (λ l. Works g.H.Host k c.args.cluster.now.next_epoch (spare a0 a1) c.args.bounds l c.work_off.result c.work_off.new.cluster c.args.host.now c.work_off.new.host) all (c.work_off.ensures.works k rests stands) in
          let are = text_is g.H.Host g.met.H.Host.seen_now k c.args.cluster.now.next_epoch (spare a0 a1) c.args.bounds requests c.work_off.result c.work_off.new.cluster c.args.host.now c.work_off.new.host w c.work_off.ensures.said c.in_ok-worked.worked c.in_ok-worked.was text c.as_slice-lists.result.now (c.as_slice.ensures.value ∙ c.in_ok-text.ensures) (λ m have. ap (λ l. map_with (joined l)) c.as_slice-lists.ensures.value ∙ c.in_ok-rows.ensures m have) in
          tries_cut g.H.Host g.met.H.Host.seen_now k c.args.cluster.now.next_epoch (spare a0 a1) c.args.bounds requests c.work_off.result c.work_off.new.cluster c.args.host.now c.work_off.new.host w c.work_off.ensures.said c.in_ok-worked.worked c.in_ok-worked.was c.say_all.new.host text are c.say_all.ensures.same c.say_all.ensures.crash c.say_all.ensures.sees
          (says_part c.say_all.result text _ _ c.say_all.ensures.ok c.say_all.ensures.err) f c.from_residual-in_err-say_all.result is);
    }

pub returns : goal.returns
returns g c =
    let a0 : Around = around g.N.Net g.P.Power c.args.net.now c.args.power.now in
    let a1 : Around = around g.N.Net g.P.Power c.work_off.new.net c.work_off.new.power in
    let requests : List Request = workload_of c.args.load.calls c.args.load.seed in
    let n0 : Counts = record { say = g.H.Host.say_faults c.args.host.now; disk = g.H.Host.disk_faults c.args.host.now } in
    let n1 : Counts = record { say = g.H.Host.say_faults c.work_off.new.host; disk = g.H.Host.disk_faults c.work_off.new.host } in
    let n2 : Counts = record { say = g.H.Host.say_faults c.say_all.new.host; disk = g.H.Host.disk_faults c.say_all.new.host } in
    let all : c.as_slice-all.result.now ≡ requests = c.as_slice-all.ensures.value ∙ c.in_ok-requests.ensures in
    let same = subst (HasCause c.args.cluster.now.next_epoch (length requests) a0 a1 n0 n1) (ap done_of c.in_ok-worked.was) (subst (λ (l : List Request). HasCause c.args.cluster.now.next_epoch (length l) a0 a1 n0 n1 (done_of c.work_off.result)) all c.work_off.ensures.cause) in
    let text = c.as_slice.result.now in
    record {
      later = c.work_off.ensures.later;
      cause = done_cause c.args.cluster.now.next_epoch (length requests) a0 a1 n0 n1 n2 same c.say_all.ensures.others c.in_ok-say_all.ensures.counts;
      tries = λ k rests stands. (
          let w : Works g.H.Host k c.args.cluster.now.next_epoch (spare a0 a1) c.args.bounds requests c.work_off.result c.work_off.new.cluster c.args.host.now c.work_off.new.host =
          subst (λ l. Works g.H.Host k c.args.cluster.now.next_epoch (spare a0 a1) c.args.bounds l c.work_off.result c.work_off.new.cluster c.args.host.now c.work_off.new.host) all (c.work_off.ensures.works k rests stands) in
          let are = text_is g.H.Host g.met.H.Host.seen_now k c.args.cluster.now.next_epoch (spare a0 a1) c.args.bounds requests c.work_off.result c.work_off.new.cluster c.args.host.now c.work_off.new.host w c.work_off.ensures.said c.in_ok-worked.worked c.in_ok-worked.was text c.as_slice-lists.result.now (c.as_slice.ensures.value ∙ c.in_ok-text.ensures) (λ m have. ap (λ l. map_with (joined l)) c.as_slice-lists.ensures.value ∙ c.in_ok-rows.ensures m have) in
          tries_told g.H.Host g.met.H.Host.seen_now k c.args.cluster.now.next_epoch (spare a0 a1) c.args.bounds requests c.work_off.result c.work_off.new.cluster c.args.host.now c.work_off.new.host w c.work_off.ensures.said c.in_ok-worked.worked c.in_ok-worked.was c.say_all.new.host text are c.say_all.ensures.same c.say_all.ensures.crash c.say_all.ensures.sees
          (says_part c.say_all.result text _ _ c.say_all.ensures.ok c.say_all.ensures.err) c.in_ok-say_all.ensures.ok);
    }
