-- Variables as they are kept: each name once, with its newest value.
use Rattle.std.specs.Prelude.{◌≡◌, ◌≤◌, ◌<◌, ℕ, List, [], ◌∷◌, map, length, slice_index_or, None, if◌then◌else◌, nat_eq}
use Rattle.std.specs.Cmp.Lexicographic.{pointwise}
use Rattle.coco_ast.specs.Meaning.{Datum, Variables, variable_at}
use Rattle.coco_ast.specs.Plans.{AreSlots}

-- each name with its value, none where there is no more
abbrev pub paired : List (List ℕ) → List Datum → Variables
paired [] vs = []
paired (n ∷ ns) [] = (n, None) ∷ paired ns []
paired (n ∷ ns) (v ∷ vs) = (n, v) ∷ paired ns vs

abbrev pub names_in : Variables → List (List ℕ)
names_in vs = map (λ v. v.0) vs

-- the variables with this value of one of them
abbrev pub set_at : Variables → List ℕ → Datum → Variables
set_at [] x d = []
set_at (v ∷ vs) x d = if pointwise nat_eq v.0 x then (v.0, d) ∷ vs else v ∷ set_at vs x d

-- the names have slots of their own, and each its value
pub record AreInSlots (names : List (List ℕ)) (values : List Datum) (count : ℕ) : Type 0 where
  pub slots : AreSlots names
  pub as_many : count ≡ length names
  pub enough : count ≤ length values

-- the first values of the list are these, and those behind them up to a place none
pub record HasValues (count : ℕ) (these values : List Datum) : Type 0 where
  pub enough : count ≤ length values
  pub each : (i : ℕ) → i < count → slice_index_or values i None ≡ slice_index_or these i None

-- no variable has another value
abbrev pub AreAlike : Variables → Variables → Type 0
AreAlike old new = (x : List ℕ) → variable_at new x ≡ variable_at old x
