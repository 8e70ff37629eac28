-- Items by rows and by columns.
use Rattle.std.specs.Prelude.{◌≡◌, ℕ, List, [], ◌∷◌, ◌++◌, vec_capacity}
use Rattle.std.specs.List.{filter_map, slice_get}
use Rattle.std.specs.Global.{Vec}

module _ {T : Type 0} where
  -- one item more, in the same room
  pub record GainsOne (x : T) (before after : Vec T) : Type 0 where
    pub items : after.items ≡ before.items ++ x ∷ []
    pub room : vec_capacity after ≡ vec_capacity before

  -- the items of the rows at a place
  abbrev pub column : ℕ → List (Vec T) → List T
  column place rows = filter_map (λ (row : Vec T). slice_get row.items place) rows
