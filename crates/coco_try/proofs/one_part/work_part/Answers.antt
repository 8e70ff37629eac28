use Rattle.std.proofs.Common.{◌+◌, ◌≤◌, length, inl, inr, [], Err, sym, ap, subst, ◌∙◌, arith}
use Rattle.std.proofs.lemmas.Result.{err_from_is_err_and}
use Rattle.coco_types.specs.Limits.{most_kept}
use Rattle.coco_types.specs.declared.call.Request.{Request}
use Rattle.coco_batches.specs.Asking.{known_of}
use Rattle.coco_cluster.specs.Turning.{MayTurn, epochs_of}
use Rattle.coco_serve.proofs.BatchLemmas.{committed, has_room, refused_early}
use Rattle.coco_try.specs.Work.{done_of}
use Rattle.coco_try.proofs.WorkLemmas.{few_fresh, part_done, part_failed, worked_few}
use Rattle.coco_try.proofs.one_part.work_part.Goals as goal

pub turn-requires-clause-may : goal.turn-requires-clause-may
turn-requires-clause-may g c κs within =
    let may = c.in_ok-fresh.ensures.new in
    let has = c.in_ok-fresh.ensures.classes in
    let few = few_fresh (known_of c.args.cluster.now.kept []) c.args.part.now c.in_ok-fresh.field-0.fresh c.in_ok-fresh.field-0.answered has in
    subst (MayTurn c.args.cluster.now) (sym c.in_ok-requests.ensures)
    (record { fit = c.in_ok-fresh.ensures.fit c.args.cluster.now.procs c.requires.fit; distinct = may.distinct; unkept = may.absent; above = may.above; few = omega (arith, few, c.requires.few) })

pub returns-in_err-fresh-clause-comes : goal.returns-in_err-fresh-clause-comes
returns-in_err-fresh-clause-comes g c k rests stands =
    let p = err_from_is_err_and c.from_residual.result c.from_residual.ensures.1 in
    inl (refused_early g.H.Host g.met.H.Host.only_now (done_of c.from_residual.result) k c.args.cluster.now _ c.args.host.now
    (ap done_of (p.1 ∙ ap Err p.2)) rests stands)

pub returns-in_err-requests-clause-comes : goal.returns-in_err-requests-clause-comes
returns-in_err-requests-clause-comes g c k rests stands =
    let p = err_from_is_err_and c.from_residual-in_err-requests.result c.from_residual-in_err-requests.ensures.1 in
    inl (refused_early g.H.Host g.met.H.Host.only_now (done_of c.from_residual-in_err-requests.result) k c.args.cluster.now _ c.args.host.now
    (ap done_of (p.1 ∙ ap Err p.2)) rests stands)

pub returns-in_err-turn-clause-comes : goal.returns-in_err-turn-clause-comes
returns-in_err-turn-clause-comes g c k rests stands =
    let requests = c.in_ok-requests.requests.items in
    let few : length c.args.cluster.now.kept.dones + length requests ≤ most_kept = omega (arith, c.in_ok-fresh.ensures.new.few, ap (length {A = Request}) c.in_ok-requests.ensures) in
    let room = has_room k c.args.cluster.now requests stands few in
    let p = err_from_is_err_and c.from_residual-in_err-turn.result c.from_residual-in_err-turn.ensures.1 in
    part_failed g.H.Host c.args.part.now c.in_ok-fresh.field-0.fresh requests c.in_ok-fresh.field-0.answered c.args.bounds _ k
    c.args.cluster.now c.turn.new.self c.args.host.now c.turn.new.host c.in_ok-fresh.ensures.classes c.in_ok-requests.ensures stands c.in_err-turn.field-0.0 c.turn.result c.from_residual-in_err-turn.result
    c.in_err-turn.was (λ file at. c.turn.ensures.never file at k rests stands room) (p.1 ∙ ap Err p.2) c.turn.ensures.said (c.turn.ensures.turns k rests stands room)

pub returns-clause-comes : goal.returns-clause-comes
returns-clause-comes g c k rests stands =
    let requests = c.in_ok-requests.requests.items in
    let few : length c.args.cluster.now.kept.dones + length requests ≤ most_kept = omega (arith, c.in_ok-fresh.ensures.new.few, ap (length {A = Request}) c.in_ok-requests.ensures) in
    let turns = c.turn.ensures.turns k rests stands (has_room k c.args.cluster.now requests stands few) in
    let done = committed g.H.Host g.met.H.Host.only_now c.turn.result c.in_ok-turn.field-0 requests c.args.bounds _ k c.args.cluster.now c.turn.new.self
    c.args.host.now c.turn.new.host c.in_ok-turn.was (λ none. let still = c.turn.ensures.nothing none in (still.1, still.3)) rests stands turns in
    inr (part_done g.H.Host c.args.part.now c.in_ok-fresh.field-0.fresh requests c.in_ok-fresh.field-0.answered c.args.bounds _ k
    c.args.cluster.now c.turn.new.self c.args.host.now c.turn.new.host c.in_ok-fresh.ensures.classes c.in_ok-requests.ensures stands (record { answered = c.from.result; epochs = c.epochs_for-epochs.result }) c.from.ensures (c.epochs_for-epochs.ensures ∙ ap epochs_of c.as_slice.ensures.value) done)

pub returns-clause-few : goal.returns-clause-few
returns-clause-few g c =
    worked_few (known_of c.args.cluster.now.kept []) c.args.part.now c.in_ok-fresh.field-0.fresh c.in_ok-requests.requests.items c.in_ok-fresh.field-0.answered (record { answered = c.from.result; epochs = c.epochs_for-epochs.result }) c.in_ok-fresh.ensures.classes c.in_ok-requests.ensures c.from.ensures
    (c.epochs_for-epochs.ensures ∙ ap epochs_of c.as_slice.ensures.value)
