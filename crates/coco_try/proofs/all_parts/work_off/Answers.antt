use Rattle.std.proofs.Common.{◌≡◌, min, [], length, Err, refl, sym, ap, subst, ◌∙◌, arith, length-append}
use Rattle.std.proofs.lemmas.Grind.{common_steps}
use Rattle.std.proofs.lemmas.Result.{err_from_is_err_and}
use Rattle.std.specs.List.{AllByRecursion}
use Rattle.std.specs.Slice.Iter.{chunks_rest, chunks_size}
use Rattle.coco_types.specs.declared.call.Request.{Request}
use Rattle.coco_ast.specs.Fitting.{Fits}
use Rattle.coco_ast.specs.Tree.{Procedures}
use Rattle.coco_ast.proofs.Lists.{all_left, all_right}
use Rattle.coco_cluster.specs.Around.{Around, SkipsFew, around, spare}
use Rattle.coco_cluster.proofs.AroundLemmas.{later_same, later_then, spare_then}
use Rattle.coco_serve.specs.Faults.{Counts}
use Rattle.coco_batches.specs.Asking.{known_of}
use Rattle.coco_try.proofs.EachLemmas.{AreWorkedOff, reason_of, worked_new, worked_off, worked_on, works_done}
use Rattle.coco_try.specs.Working.{Works}
use Rattle.coco_try.proofs.GrowthLemmas.{part_taken}
use Rattle.coco_try.proofs.all_parts.work_off.Goals as goal

pub loop-part-init : goal.loop-part-init
loop-part-init g c =
    let a0 : Around = around g.N.Net g.P.Power c.args.net.now c.args.power.now in
    let same = c.into_iter-part-iterator.ensures.into_iter_gives in
    let all : chunks_rest c.into_iter-part-iterator.result ≡ c.args.requests.now = ap chunks_rest same ∙ c.chunks-part-items.ensures.rest in
    let count = ap (length {A = Request}) all in
    record {
      works = λ k rests stands. subst (λ l. AreWorkedOff g.H.Host k c.args.cluster.now.next_epoch (spare a0 a0) c.args.bounds c.args.requests.now l (record { answered = 0; epochs = 0 }) c.args.cluster.now c.args.host.now c.args.host.now) (sym all)
          (worked_new g.H.Host g.met.H.Host.only_now k (spare a0 a0) c.args.bounds c.args.requests.now (record { answered = 0; epochs = 0 }) c.args.cluster.now c.args.host.now refl refl rests stands);
      size = ap chunks_size same ∙ c.chunks-part-items.ensures.size;
      answered = omega (arith, count);
      epochs = omega (arith, count);
      fit = subst (AllByRecursion (λ (r : Request). Fits c.args.cluster.now.procs r.call)) (sym all) c.requires.fit;
      low = omega arith;
      later = later_same _;
      sound = c.requires.sound;
      room = c.requires.room;
      stand = c.requires.stand;
      quiet = refl;
      says = refl;
      disks = refl;
    }

pub loop-part-preserved : goal.loop-part-preserved
loop-part-preserved g c =
    let a0 : Around = around g.N.Net g.P.Power c.args.net.now c.args.power.now in
    let a1 : Around = around g.N.Net g.P.Power c.loop-part.net c.loop-part.power in
    let a2 : Around = around g.N.Net g.P.Power c.work_part.new.net c.work_part.new.power in
    let old = c.loop-part.invariant in
    let adds = spare_then a0 a1 a2 old.later c.work_part.ensures.later in
    let steps = c.in-Some.ensures.steps.1 in
    let taken = part_taken c.args.bounds.size (chunks_rest c.loop-part.part-iterator) (chunks_rest c.next.new.self) c.in-Some.part.now steps.0 (steps.1 ∙ ap (λ n. min n (length (chunks_rest c.loop-part.part-iterator))) old.size) in
    let both = length-append c.in-Some.part.now (chunks_rest c.next.new.self) in
    let count = ap (length {A = Request}) steps.0 in
    let few = c.in_ok-more.ensures.few in
    let counts = c.in_ok-more.ensures.counts in
    record {
      works = λ k rests stands. (let a = old.works k rests stands in
          worked_on g.H.Host k c.args.cluster.now.next_epoch (spare a0 a1) (spare a1 a2) (spare a0 a2) c.args.bounds c.args.requests.now (chunks_rest c.loop-part.part-iterator) c.loop-part.worked c.loop-part.cluster
          c.work_part.new.cluster c.args.host.now c.loop-part.host c.work_part.new.host c.in-Some.part.now c.work_part.result adds a old.quiet taken.0 (c.work_part.ensures.comes a.d a.rests a.stands) c.in_ok-more.more _
          (chunks_rest c.next.new.self) c.in_ok-more.was refl refl taken.1);
      size = c.in-Some.ensures.steps.0 ∙ old.size;
      answered = omega (arith, old.answered, few.answered, count, both);
      epochs = omega (arith, old.epochs, few.epochs, count, both);
      fit = subst (λ (p : Procedures). AllByRecursion (λ (r : Request). Fits p r.call) (chunks_rest c.next.new.self)) (sym c.work_part.ensures.procs)
          (all_right (λ (r : Request). Fits c.loop-part.cluster.procs r.call) c.in-Some.part.now (chunks_rest c.next.new.self) (subst (AllByRecursion (λ (r : Request). Fits c.loop-part.cluster.procs r.call)) steps.0 old.fit));
      low = subst (SkipsFew c.args.cluster.now.next_epoch c.work_part.new.cluster.next_epoch _) (sym adds) (omega (arith, old.low, c.in_ok-more.ensures.next));
      later = later_then a0 a1 a2 old.later c.work_part.ensures.later;
      sound = c.in_ok-more.ensures.sound;
      room = c.in_ok-more.ensures.room;
      stand = c.in_ok-more.ensures.stand;
      quiet = c.work_part.ensures.said ∙ old.quiet;
      says = (λ i. (counts i).say) ∙ old.says;
      disks = (λ i. (counts i).disk) ∙ old.disks;
    }

pub work_part-requires-clause-fit : goal.work_part-requires-clause-fit
work_part-requires-clause-fit g c κs within =
    let is = c.in-Some.ensures.steps.1.0 in
    all_left (λ (r : Request). Fits c.loop-part.cluster.procs r.call) c.in-Some.part.now (chunks_rest c.next.new.self) (subst (AllByRecursion (λ (r : Request). Fits c.loop-part.cluster.procs r.call)) is c.loop-part.invariant.fit)

pub returns-in_err-more-clause-later : goal.returns-in_err-more-clause-later
returns-in_err-more-clause-later g c =
    let a0 : Around = around g.N.Net g.P.Power c.args.net.now c.args.power.now in
    let a1 : Around = around g.N.Net g.P.Power c.loop-part.net c.loop-part.power in
    let a2 : Around = around g.N.Net g.P.Power c.work_part.new.net c.work_part.new.power in
    later_then a0 a1 a2 c.loop-part.invariant.later c.work_part.ensures.later

pub returns-in_err-more-clause-works : goal.returns-in_err-more-clause-works
returns-in_err-more-clause-works g c k rests stands =
    let a0 : Around = around g.N.Net g.P.Power c.args.net.now c.args.power.now in
    let a1 : Around = around g.N.Net g.P.Power c.loop-part.net c.loop-part.power in
    let a2 : Around = around g.N.Net g.P.Power c.work_part.new.net c.work_part.new.power in
    let n1 : Counts = record { say = g.H.Host.say_faults c.loop-part.host; disk = g.H.Host.disk_faults c.loop-part.host } in
    let n2 : Counts = record { say = g.H.Host.say_faults c.work_part.new.host; disk = g.H.Host.disk_faults c.work_part.new.host } in
    let a = c.loop-part.invariant.works k rests stands in
    let steps = c.in-Some.ensures.steps.1 in
    let taken = part_taken c.args.bounds.size (chunks_rest c.loop-part.part-iterator) (chunks_rest c.next.new.self) c.in-Some.part.now steps.0 (steps.1 ∙ ap (λ n. min n (length (chunks_rest c.loop-part.part-iterator))) c.loop-part.invariant.size) in
    let f = c.in_err-more.field-0.0 in
    let p = err_from_is_err_and c.from_residual.result c.from_residual.ensures.1 in
    subst (λ r. Works g.H.Host k c.args.cluster.now.next_epoch (spare a0 a2) c.args.bounds c.args.requests.now r c.work_part.new.cluster c.args.host.now c.work_part.new.host) (sym (p.1 ∙ ap Err p.2))
    (worked_off g.H.Host k c.args.cluster.now.next_epoch (spare a0 a1) (spare a1 a2) (spare a0 a2) c.args.bounds c.args.requests.now (chunks_rest c.loop-part.part-iterator) c.loop-part.worked c.loop-part.cluster c.work_part.new.cluster
    c.args.host.now c.loop-part.host c.work_part.new.host c.in-Some.part.now c.work_part.result (spare_then a0 a1 a2 c.loop-part.invariant.later c.work_part.ensures.later) a c.loop-part.invariant.quiet taken.0
    (c.work_part.ensures.comes a.d a.rests a.stands) f c.in_err-more.was
    (reason_of f (known_of c.loop-part.cluster.kept []) c.in-Some.part.now c.loop-part.cluster.next_epoch a1 a2 n1 n2 c.in_err-more.ensures.counts))

pub returns-clause-works : goal.returns-clause-works
returns-clause-works g c k rests stands =
    let none : chunks_rest c.loop-part.part-iterator ≡ [] = grind (arith, common_steps) in
    works_done g.H.Host k c.args.cluster.now.next_epoch _ c.args.bounds c.args.requests.now (chunks_rest c.loop-part.part-iterator) c.loop-part.worked c.loop-part.cluster c.args.host.now c.loop-part.host
    (c.loop-part.invariant.works k rests stands) none
