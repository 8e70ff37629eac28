use Rattle.std.proofs.Common.{◌+◌, ◌≤◌, length, inl, inr, Err, sym, ap, subst, ◌∙◌, arith}
use Rattle.std.proofs.lemmas.Result.{err_from_is_err_and}
use Rattle.coco_types.specs.declared.call.Request.{Request}
use Rattle.coco_types.specs.Limits.{most_kept}
use Rattle.coco_cluster.specs.Turning.{MayTurn}
use Rattle.coco_serve.proofs.BatchLemmas.{all_said, all_stand_still, committed, has_room, partly_said, refused_early, says_part, texts_are, turn_failed, unsaid}
use Rattle.coco_serve.proofs.one_batch.turn_and_say.Goals as goal

pub turn-requires-clause-may : goal.turn-requires-clause-may
turn-requires-clause-may g c κs within =
    let may = c.requires.may in
    subst (MayTurn c.args.cluster.now) (sym c.in_ok-requests.ensures) (record { fit = may.fit; distinct = may.new.distinct; unkept = may.new.absent; above = may.new.above; few = c.requires.few })

pub returns-in_err-turn-clause-answers : goal.returns-in_err-turn-clause-answers
returns-in_err-turn-clause-answers g c k rests stands =
    let requests = c.in_ok-requests.requests.items in
    let few : length c.args.cluster.now.kept.dones + length requests ≤ most_kept = omega (arith, c.requires.may.new.few, ap (length {A = Request}) c.in_ok-requests.ensures) in
    let turns = c.turn.ensures.turns k rests stands (has_room k c.args.cluster.now requests stands few) in
    let p = err_from_is_err_and c.from_residual-in_err-turn.result c.from_residual-in_err-turn.ensures.1 in
    turn_failed g.H.Host c.in_err-turn.field-0.0 c.turn.result c.from_residual-in_err-turn.result c.args.batch requests c.args.bounds _ k
    c.args.cluster.now c.turn.new.self c.args.host.now c.turn.new.host c.in_err-turn.was (λ file at. c.turn.ensures.never file at k rests stands (has_room k c.args.cluster.now requests stands few)) (p.1 ∙ ap Err p.2) c.in_ok-requests.ensures c.turn.ensures.said turns

pub returns-in_err-texts-clause-answers : goal.returns-in_err-texts-clause-answers
returns-in_err-texts-clause-answers g c k rests stands =
    let requests = c.in_ok-requests.requests.items in
    let few : length c.args.cluster.now.kept.dones + length requests ≤ most_kept = omega (arith, c.requires.may.new.few, ap (length {A = Request}) c.in_ok-requests.ensures) in
    let turns = c.turn.ensures.turns k rests stands (has_room k c.args.cluster.now requests stands few) in
    let done = committed g.H.Host g.met.H.Host.only_now c.turn.result c.in_ok-turn.field-0 requests c.args.bounds _ k c.args.cluster.now c.turn.new.self
    c.args.host.now c.turn.new.host c.in_ok-turn.was (λ none. let still = c.turn.ensures.nothing none in (still.1, still.3)) rests stands turns in
    let p = err_from_is_err_and c.from_residual-in_err-texts.result c.from_residual-in_err-texts.ensures.1 in
    inr (unsaid g.H.Host c.args.batch requests c.args.bounds k c.args.cluster.now.next_epoch _ c.turn.new.self c.args.host.now c.turn.new.host c.in_ok-requests.ensures c.turn.ensures.said done
    c.from_residual-in_err-texts.result (p.1 ∙ ap Err p.2))

pub returns-in_err-say_all-clause-answers : goal.returns-in_err-say_all-clause-answers
returns-in_err-say_all-clause-answers g c k rests stands =
    let requests = c.in_ok-requests.requests.items in
    let few : length c.args.cluster.now.kept.dones + length requests ≤ most_kept = omega (arith, c.requires.may.new.few, ap (length {A = Request}) c.in_ok-requests.ensures) in
    let turns = c.turn.ensures.turns k rests stands (has_room k c.args.cluster.now requests stands few) in
    let done = committed g.H.Host g.met.H.Host.only_now c.turn.result c.in_ok-turn.field-0 requests c.args.bounds _ k c.args.cluster.now c.turn.new.self
    c.args.host.now c.turn.new.host c.in_ok-turn.was (λ none. let still = c.turn.ensures.nothing none in (still.1, still.3)) rests stands turns in
    let p = err_from_is_err_and c.from_residual-in_err-say_all.result c.from_residual-in_err-say_all.ensures.1 in
    let are = texts_are done.d c.turn.new.self c.args.batch c.as_slice.result.now c.as_slice-2.result.now done.stands c.as_slice.ensures.value (c.as_slice-2.ensures.value ∙ c.in_ok-texts.ensures) in
    inr (partly_said g.H.Host c.args.batch requests c.args.bounds k c.args.cluster.now.next_epoch _ c.turn.new.self c.args.host.now c.turn.new.host c.in_ok-requests.ensures c.turn.ensures.said done
    c.say_all.new.host c.as_slice-2.result.now are c.say_all.ensures.same c.say_all.ensures.crash c.say_all.ensures.sees
    (says_part c.say_all.result c.as_slice-2.result.now _ _ c.say_all.ensures.ok c.say_all.ensures.err) c.in_err-say_all.field-0.0 c.from_residual-in_err-say_all.result (p.1 ∙ ap Err p.2))

pub returns-clause-answers : goal.returns-clause-answers
returns-clause-answers g c k rests stands =
    let requests = c.in_ok-requests.requests.items in
    let few : length c.args.cluster.now.kept.dones + length requests ≤ most_kept = omega (arith, c.requires.may.new.few, ap (length {A = Request}) c.in_ok-requests.ensures) in
    let turns = c.turn.ensures.turns k rests stands (has_room k c.args.cluster.now requests stands few) in
    let done = committed g.H.Host g.met.H.Host.only_now c.turn.result c.in_ok-turn.field-0 requests c.args.bounds _ k c.args.cluster.now c.turn.new.self
    c.args.host.now c.turn.new.host c.in_ok-turn.was (λ none. let still = c.turn.ensures.nothing none in (still.1, still.3)) rests stands turns in
    let are = texts_are done.d c.turn.new.self c.args.batch c.as_slice.result.now c.as_slice-2.result.now done.stands c.as_slice.ensures.value (c.as_slice-2.ensures.value ∙ c.in_ok-texts.ensures) in
    inr (all_said g.H.Host c.args.batch requests c.args.bounds k c.args.cluster.now.next_epoch _ c.turn.new.self c.args.host.now c.turn.new.host c.in_ok-requests.ensures c.turn.ensures.said done
    c.say_all.new.host c.as_slice-2.result.now are c.say_all.ensures.same c.say_all.ensures.crash c.say_all.ensures.sees
    (says_part c.say_all.result c.as_slice-2.result.now _ _ c.say_all.ensures.ok c.say_all.ensures.err) c.in_ok-say_all.ensures.ok)

pub returns-in_err-requests-clause-answers : goal.returns-in_err-requests-clause-answers
returns-in_err-requests-clause-answers g c k rests stands =
    let p = err_from_is_err_and c.from_residual.result c.from_residual.ensures.1 in
    inl (refused_early g.H.Host g.met.H.Host.only_now c.from_residual.result k c.args.cluster.now _ c.args.host.now (p.1 ∙ ap Err p.2) rests stands)

pub returns-clause-stand : goal.returns-clause-stand
returns-clause-stand g c = all_stand_still c.turn.new.self (g.H.Host.reads c.turn.new.host) (g.H.Host.reads c.say_all.new.host) (g.H.Host.may_leave c.turn.new.host) (g.H.Host.may_leave c.say_all.new.host)
    c.say_all.ensures.same c.say_all.ensures.crash c.in_ok-turn.ensures.stand
