use Rattle.std.proofs.Common.{◌≡◌, ◌∙◌, List, ℕ, ap, rules, subst, sym}
use Rattle.std.specs.List.Sorted.{IsBinarySearchResult}
use Rattle.std.specs.Ordering.{nat_cmp}
use Rattle.coco_ship.specs.Sets.{is_in}
use Rattle.coco_ship.proofs.SetLemmas.{looked_up}
use Rattle.coco_ship.proofs.places.PlaceSet.finds.Goals as goal

pub returns : goal.returns
returns c =
    let ks : List ℕ = c.self.inside.places.items in
    let place = c.args.place in
    let found = c.binary_search.result in
    let is : c.args.self.now ≡ ks = search rules in
    let position : IsBinarySearchResult (λ y. nat_cmp y place) ks found = subst (λ xs. IsBinarySearchResult (λ y. nat_cmp y place) xs found) c.deref.ensures.value c.binary_search.ensures.position in
    c.is_ok.ensures.value ∙ looked_up ks place found c.self.invariant position ∙ sym (ap (λ xs. is_in xs place) is)
