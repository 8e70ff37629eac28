use Rattle.std.proofs.Common.{◌≡◌, ◌<◌, ◌∷◌, ◌++◌, ℕ, [], List, length, sym, subst, ◌∙◌}
use Rattle.std.specs.List.{All}
use Rattle.coco_types.specs.declared.call.Done.{Done}
use Rattle.coco_lost.specs.Requests.{ArePlaces}
use Rattle.coco_lost.proofs.RequestLemmas.{all_passed, Filled, filled_all, filled_step, ok_more, one_more, within_slots}
use Rattle.coco_lost.proofs.requests.requests_back.Goals as goal

pub put-requires-clause-within : goal.put-requires-clause-within
put-requires-clause-within c =
    subst (λ (ps : List (ℕ × ℕ)). All (λ (place : ℕ × ℕ). place.1 < length c.loop-done.slots.items) ps) (sym c.deref.ensures.value)
    (within_slots c.args.ids.now c.in_ok-places.places.items c.loop-done.slots.items c.in_ok-places.ensures.places c.loop-done.invariant.2.count)

pub loop-done-preserved : goal.loop-done-preserved
loop-done-preserved c = (
  c.loop-done.invariant.0 ++ c.in-Some.done ∷ [],
  one_more c.args.dones c.loop-done.invariant.0 c.loop-done.done-iterator.rest.items c.in-Some.done c.next.new.self.rest.items c.loop-done.invariant.1 c.in-Some.ensures.steps.0,
  filled_step c.args.ids.now c.deref.result.now c.loop-done.invariant.0 c.loop-done.slots.items c.in-Some.done c.put.new.slots.items
      (subst (ArePlaces c.args.ids.now) (sym c.deref.ensures.value) c.in_ok-places.ensures.places) c.loop-done.invariant.2 c.put.ensures,
)

pub returns : goal.returns
returns c =
    let come : c.args.dones ≡ c.loop-done.invariant.0 = all_passed c.args.dones c.loop-done.invariant.0 c.loop-done.done-iterator.rest.items c.loop-done.invariant.1 (sym c.loop-done.done-iterator.rest.ok.0 ∙ c.in-None.ensures.steps.0) in
    ok_more c.filled.result c.filled.ensures (λ back is requests are. is ∙ filled_all c.args.ids.now c.args.dones c.loop-done.slots.items
    (subst (λ (ds : List Done). Filled c.args.ids.now ds c.loop-done.slots.items) (sym come) c.loop-done.invariant.2) requests are)
