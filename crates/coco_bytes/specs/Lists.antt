-- Counted lists: four bytes of count, and the items one behind another.
use Rattle.std.specs.Prelude.{ℕ, zero, suc, List, [], ◌∷◌, ◌++◌, length, Option, Some, None, Ok}
use Rattle.std.specs.List.{flat_map}
use Rattle.coco_bytes.specs.Fields.{u32_bytes}
use Rattle.coco_bytes.specs.Reads.{◌>>=◌, Read, u32_at}

abbrev pub counted : {A : Type 0} → (A → List ℕ) → List A → List ℕ
counted bytes_of items = u32_bytes (length items) ++ flat_map bytes_of items

-- Each item is read knowing the one before it, so that a list can be one that rises.
unfoldable pub items_at : {A : Type 0} → (Option A → List ℕ → ℕ → Read A) → Option A → ℕ → List ℕ → ℕ → Read (List A)
items_at read before zero from at = Ok ([], at)
items_at read before (suc n) from at = do
  first ← read before from at
  others ← items_at read (Some first.0) n from first.1
  Ok (first.0 ∷ others.0, others.1)

unfoldable pub counted_at : {A : Type 0} → (Option A → List ℕ → ℕ → Read A) → List ℕ → ℕ → Read (List A)
counted_at read from at = do
  n ← u32_at from at
  items_at read None n.0 from n.1

-- each item fits behind the one before it
abbrev pub FitInTurn : {A : Type 0} → (Option A → A → Type 0) → Option A → List A → Type 0
FitInTurn Fits before [] = Unit {0}
FitInTurn Fits before (x ∷ xs) = Fits before x × FitInTurn Fits (Some x) xs

abbrev pub last_item : {A : Type 0} → List A → Option A
last_item [] = None
last_item (x ∷ []) = Some x
last_item (x ∷ y ∷ xs) = last_item (y ∷ xs)
