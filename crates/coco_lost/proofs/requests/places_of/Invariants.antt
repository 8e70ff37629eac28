use Rattle.std.proofs.Common.{◌≡◌, ◌<◌, ℕ, Some}
use Rattle.std.specs.List.{slice_get, All, Contains}
use Rattle.coco_lost.proofs.requests.places_of.Given as goal

abbrev pub invariant-loop-place : goal.invariant-loop-place
invariant-loop-place l = record {
  each : (n id : ℕ) → n < l.place → slice_get l.ids n ≡ Some id → Contains l.places.items (id, n);
  only : All (λ (place : ℕ × ℕ). slice_get l.ids place.1 ≡ Some place.0) l.places.items;
}
