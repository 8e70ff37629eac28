-- How a history grows by requests: one epoch for each list of them that isn't empty. Which numbers and times its Dones get, beyond their order, is the schedule's to say.
use Rattle.std.specs.Prelude.{◌≡◌, ◌<◌, List, [], ◌∷◌, map, None, nat_eq}
use Rattle.std.specs.List.{AllByRecursion, IsDistinct}
use Rattle.std.specs.List.Sorted.{IsPermutation}
use Rattle.coco_types.specs.declared.call.Request.{Request}
use Rattle.coco_ast.specs.History.{History, Epoch, AreAbove, IsRising, done_of, floor, followed_by, kept, last_epoch, request_of}

-- one Done for each of these requests, with its call and the epoch's number, in the order of commit: by time, then id
pub record IsEpochOf (requests : List Request) (e : Epoch) : Type 0 where
  pub each : IsPermutation requests (map request_of e.dones)
  pub numbered : AllByRecursion (λ d. d.epoch ≡ e.number) e.dones
  pub rising : IsRising e.dones

-- requests make an epoch of a greater number; no request makes none
abbrev pub GrowsBy : History → List Request → History → Type 0
GrowsBy h [] g = g ≡ h
GrowsBy h (r ∷ rs) g = (e : Epoch) × (last_epoch h < e.number) × IsEpochOf (r ∷ rs) e × (g ≡ followed_by h e)

-- by one list after another
abbrev pub GrowsInTurn : (History → List Request → History → Type 0) → History → List (List Request) → History → Type 0
GrowsInTurn Grows h [] g = g ≡ h
GrowsInTurn Grows h (rs ∷ more) g = (between : History) × Grows h rs between × GrowsInTurn Grows between more g

abbrev pub GrowsByAll : History → List (List Request) → History → Type 0
GrowsByAll = GrowsInTurn GrowsBy

-- requests that a history may grow by: each has an id of its own, which isn't kept and is above the floor
pub record AreNew (h : History) (requests : List Request) : Type 0 where
  pub distinct : IsDistinct nat_eq (map (λ r. r.id) requests)
  pub unkept : AllByRecursion (λ r. done_of r.id (kept h) ≡ None) requests
  pub above : AreAbove (floor h) (map (λ r. r.id) requests)
