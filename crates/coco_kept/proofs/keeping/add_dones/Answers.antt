use Rattle.std.proofs.Common.{◌≡◌, List, length, refl, sym, ap, ◌∙◌, subst, arith, rules}
use Rattle.coco_types.specs.declared.call.Done.{Done}
use Rattle.coco_kept.specs.Holding.{MayFollow}
use Rattle.coco_kept.proofs.Adding.{Adding, adding_begins, adding_ends, adding_goes_on, new_in, newest_in, no_more}
use Rattle.coco_kept.proofs.keeping.add_dones.Goals as goal

pub loop-done-init : goal.loop-done-init
loop-done-init c =
    let all : c.into_iter-done-iterator.result.rest.items ≡ c.args.dones = search rules in
    subst (Adding c.args.kept.now c.args.dones c.args.kept.now) (sym all)
    (adding_begins c.args.kept.now c.args.kept.now c.args.dones c.requires.follow refl refl refl c.requires.room)

pub add-requires-clause-new : goal.add-requires-clause-new
add-requires-clause-new c = new_in c.loop-done.kept.dones _ c.in-Some.done (subst (MayFollow c.loop-done.kept) c.in-Some.ensures.steps.0 c.loop-done.invariant.may).once

pub add-requires-clause-newest : goal.add-requires-clause-newest
add-requires-clause-newest c = newest_in c.loop-done.kept.dones _ c.in-Some.done (subst (MayFollow c.loop-done.kept) c.in-Some.ensures.steps.0 c.loop-done.invariant.may).rising

pub add-requires-clause-room : goal.add-requires-clause-room
add-requires-clause-room c = omega (arith, c.loop-done.invariant.room, ap (λ (ds : List Done). length ds) c.in-Some.ensures.steps.0)

pub loop-done-preserved : goal.loop-done-preserved
loop-done-preserved c =
    adding_goes_on c.args.kept.now c.loop-done.kept c.add.new.self c.args.dones _ c.in-Some.done (subst (Adding c.args.kept.now c.args.dones c.loop-done.kept) c.in-Some.ensures.steps.0 c.loop-done.invariant)
    c.add.ensures.dones c.add.ensures.keep c.add.ensures.room c.add.ensures.kept

pub returns-clause-kept : goal.returns-clause-kept
returns-clause-kept c before added holds rising = adding_ends c.args.kept.now c.loop-done.kept c.args.dones _ (no_more c.loop-done.done-iterator.rest.items (sym c.loop-done.done-iterator.rest.ok.0 ∙ c.in-None.ensures.steps.0)) c.loop-done.invariant before added holds rising
