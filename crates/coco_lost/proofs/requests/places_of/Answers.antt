use Rattle.std.proofs.Common.{◌<◌, arith, rules}
use Rattle.std.proofs.lemmas.List.Sorted.{answers_always}
use Rattle.coco_lost.proofs.RequestLemmas.{are_places, rises_sorted}
use Rattle.coco_lost.proofs.requests.places_of.Goals as goal

pub returns-clause-places : goal.returns-clause-places
returns-clause-places c = are_places c.args.ids.now c.loop-place.places.items c.sort_unstable_by_key.new.self.items c.sort_unstable_by_key.ensures.permutation
    (λ n id lt at. c.loop-place.invariant.each n id (let less : n < c.loop-place.place = omega (arith, lt, c.loop-place-test.false) in less) at)
    c.loop-place.invariant.only

pub returns-clause-rising : goal.returns-clause-rising
returns-clause-rising c = rises_sorted c.sort_unstable_by_key.new.self.items (c.sort_unstable_by_key.ensures.sorted (λ place. place.0) (answers_always _ _ _ (λ f a r g h. search rules)))
