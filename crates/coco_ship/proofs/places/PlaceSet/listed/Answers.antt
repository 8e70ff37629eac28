use Rattle.std.proofs.Common.{◌≡◌, ◌<◌, ◌^◌, List, None, ℕ, arith, get_or, length, rules, subst, sym}
use Rattle.std.specs.List.{All}
use Rattle.std.proofs.lemmas.List.{get_or_default}
use Rattle.coco_bytes.specs.Lists.{FitInTurn}
use Rattle.coco_msg.specs.Bytes.{AreListable, ArePlaces, RisesFrom}
use Rattle.coco_ship.proofs.MessageLemmas.{are_places}
use Rattle.coco_ship.proofs.SetLemmas.{rising}
use Rattle.coco_ship.proofs.places.PlaceSet.listed.Goals as goal

pub returns-clause-readable : goal.returns-clause-readable
returns-clause-readable c =
    let ks : List ℕ = c.self.inside.places.items in
    let places : List ℕ = c.as_slice-places.result.now in
    let few : length places < 2 ^ 32 = omega arith in
    let listable : AreListable places = (few, subst (λ xs. FitInTurn RisesFrom None xs) (sym c.as_slice-places.ensures.value) (rising ks c.self.invariant)) in
    let same : c.in_ok-to_vec.field-0.items ≡ places = search rules in
    let fit : (k : ℕ) → get_or places k 0 < 2 ^ 32 = λ k. search rules in
    let each : All (λ q. q < 2 ^ 32) places = λ k d less. omega (arith, fit k, get_or_default places k d 0 less) in
    subst ArePlaces (sym same) (are_places places listable each)
