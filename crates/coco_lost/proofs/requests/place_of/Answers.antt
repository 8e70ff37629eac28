use Rattle.std.proofs.Common.{rules}
use Rattle.std.proofs.lemmas.List.Sorted.{answers_always}
use Rattle.coco_lost.proofs.RequestLemmas.{found_at, found_none}
use Rattle.coco_lost.proofs.requests.place_of.Goals as goal

pub returns-in-Ok-clause-found : goal.returns-in-Ok-clause-found
returns-in-Ok-clause-found c =
    let s = c.binary_search_by_key.ensures.position (λ place. place.0) (answers_always _ _ _ (λ f a r g h. search rules)) in
    found_at c.args.places.now c.args.id c.binary_search_by_key.result c.in-Ok.at (0, 0) c.in-Ok.is c.binary_search_by_key.ensures.bound s

pub returns-in-Err-clause-none : goal.returns-in-Err-clause-none
returns-in-Err-clause-none c =
    let s = c.binary_search_by_key.ensures.position (λ place. place.0) (answers_always _ _ _ (λ f a r g h. search rules)) in
    found_none c.args.places.now c.args.id c.binary_search_by_key.result _ c.in-Err.is s c.requires
