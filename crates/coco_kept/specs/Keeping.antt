-- What contracts see of the kept Dones, and which of the Dones that were added are kept.
use Rattle.std.specs.Prelude.{◌≡◌, ℕ, max, List, [], ◌∷◌, Option, nat_eq}
use Rattle.std.specs.List.{IsDistinct}
use Rattle.coco_types.specs.declared.call.Done.{Done}
use Rattle.coco_ast.specs.History.{ids_of, kept_of, floor_of}

-- The Dones that are held, in order of commit; the greatest id that was forgotten; of how many of the last epochs Dones
-- are kept, all where it isn't said; and how many more Dones fit without memory.
pub record Keeping : Type 0 where
  pub dones : List Done
  pub floor : Option ℕ
  pub keep : Option ℕ
  pub room : ℕ

-- each id has one Done
abbrev pub HasDistinctIds : List Done → Type 0
HasDistinctIds dones = IsDistinct nat_eq (ids_of dones)

-- the greatest epoch of the Dones, and 0 where there is none
abbrev pub newest_epoch : List Done → ℕ
newest_epoch [] = 0
newest_epoch (d ∷ dones) = max d.epoch (newest_epoch dones)

-- the kept ones of these Dones are held, and the floor is theirs, over the one from before them
pub record HoldsKept (k : Keeping) (before : Option ℕ) (added : List Done) : Type 0 where
  pub kept : k.dones ≡ kept_of k.keep added
  pub floor : k.floor ≡ floor_of k.keep before added
