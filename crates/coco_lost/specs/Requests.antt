-- Requests that are made of their Dones again.
use Rattle.std.specs.Prelude.{◌≡◌, ◌⊎◌, ℕ, List, Option, Some, All, Contains, map, nat_eq, slice_set}
use Rattle.std.specs.List.{slice_get, IsDistinct}
use Rattle.std.specs.List.Sorted.{IsPermutation}
use Rattle.coco_ast.specs.History.{request_of}
use Rattle.coco_types.specs.declared.call.Done.{Done}
use Rattle.coco_types.specs.declared.call.Request.{Request}

-- these are the ids of requests, each of its own, and the Dones are of just these requests
pub record AreRequestsOf (ids : List ℕ) (dones : List Done) (requests : List Request) : Type 0 where
  pub ids_are : ids ≡ map (λ (r : Request). r.id) requests
  pub distinct : IsDistinct nat_eq ids
  pub each : IsPermutation requests (map request_of dones)

-- each id stands there with its place, and no other pair does
pub record ArePlaces (ids : List ℕ) (places : List (ℕ × ℕ)) : Type 0 where
  pub each : (n id : ℕ) → slice_get ids n ≡ Some id → Contains places (id, n)
  pub only : All (λ place. slice_get ids place.1 ≡ Some place.0) places

-- a request is put where its id has its place, and nowhere where it has none
abbrev pub IsPut : List (ℕ × ℕ) → Request → List (Option Request) → List (Option Request) → Type 0
IsPut places r old new =
    ((place : ℕ) × Contains places (r.id, place) × (new ≡ slice_set old place (Some r))) ⊎ (((place : ℕ) → Contains places (r.id, place) → ⊥) × (new ≡ old))
