-- Of which epochs an opened store has tables.
use Rattle.std.specs.Prelude.{◌≡◌, ℕ, ◌≤◌, nat_le, nat_lt, ◌&&◌, List, [], ◌∷◌, Option, filter}
use Rattle.coco_types.specs.declared.call.Done.{Done}
use Rattle.coco_ast.specs.History.{last_epoch}
use Rattle.coco_recover.specs.Opening.{Has}
use Rattle.coco_recover.specs.declared.opening.Opened.{Opened}
use Rattle.coco_store.specs.Contents.{Contents, history_of}

-- the last of these numbers, or this one where there is none
abbrev pub last_of : ℕ → List ℕ → ℕ
last_of n [] = n
last_of n (x ∷ xs) = last_of x xs

-- the base's epoch, and the last one that was committed
abbrev pub first_in : Opened → ℕ
first_in store = store.layout.base_epoch

abbrev pub last_in : Opened → ℕ
last_in store = last_of store.layout.base_epoch store.epochs.items

pub record IsWithin (store : Opened) (epoch : ℕ) : Type 0 where
  pub first : first_in store ≤ epoch
  pub last : epoch ≤ last_in store

-- what an opened store says of its epochs is what its history says
abbrev pub RangesAreHistories : Type 0
RangesAreHistories = (keep : Option ℕ) (c : Contents) (store : Opened) → Has keep c store → (first_in store ≡ (history_of c).base.epoch) × (last_in store ≡ last_epoch (history_of c))

-- the Dones of the epochs behind this one and up to that
abbrev pub between : ℕ → ℕ → List Done → List Done
between first last dones = filter (λ (d : Done). nat_lt first d.epoch && nat_le d.epoch last) dones
