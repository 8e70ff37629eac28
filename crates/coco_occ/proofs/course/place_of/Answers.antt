use Rattle.std.proofs.Common.{◌≡◌, false, ℕ, ◌<◌, Option, length, rules, sym, subst}
use Rattle.std.specs.Option.{IfSome, IfNone}
use Rattle.std.specs.List.{list_any, HoldsAt}
use Rattle.std.proofs.lemmas.List.Sorted.{answers_always}
use Rattle.coco_ast.specs.Meaning.{is_key}
use Rattle.coco_occ.proofs.Searches.{found_at, found_none}
use Rattle.coco_occ.proofs.course.place_of.Goals as goal

pub returns-clause-found : goal.returns-clause-found
returns-clause-found c =
    let s = c.binary_search_by_key.ensures.position (λ w. w.key) (answers_always _ _ _ (λ f a r g h. search rules)) in
    subst (λ (o : Option ℕ). IfSome o (λ place. (place < length c.args.writes.now) × HoldsAt (λ w. w.key ≡ c.args.key) c.args.writes.now place)) (sym c.ok.ensures.value)
    (found_at c.args.key c.args.writes.now c.binary_search_by_key.result c.binary_search_by_key.ensures.bound s)

pub returns-clause-none : goal.returns-clause-none
returns-clause-none c = λ rises.
    let s = c.binary_search_by_key.ensures.position (λ w. w.key) (answers_always _ _ _ (λ f a r g h. search rules)) in
    subst (λ (o : Option ℕ). IfNone o (list_any (λ w. is_key c.args.key w.key) c.args.writes.now ≡ false)) (sym c.ok.ensures.value)
    (found_none c.args.key c.args.writes.now c.binary_search_by_key.result s rises)
