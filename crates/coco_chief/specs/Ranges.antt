-- Committed epochs as ranges of numbers that follow one another.
use Rattle.std.specs.Prelude.{⊤, ℕ, zero, suc, ◌-◌, ◌≤◌, List, [], ◌∷◌, ◌++◌, Bool, nat_le, ◌&&◌}
use Rattle.std.specs.List.{list_any}
use Rattle.std.specs.Coded.{×_prop, Unit-prop, le_prop}
use Rattle.coco_chief.specs.declared.ranges.Range.{Range}

abbrev pub is_in : ℕ → Range → Bool
is_in e r = nat_le r.first e && nat_le e r.last

-- one of the ranges has this epoch
abbrev pub covers : List Range → ℕ → Bool
covers ranges e = list_any (is_in e) ranges

-- so many epochs from this one on
abbrev pub span : ℕ → ℕ → List ℕ
span first zero = []
span first (suc n) = first ∷ span (suc first) n

abbrev pub span_of : Range → List ℕ
span_of r = span r.first (suc (r.last - r.first))

abbrev pub end_of : List Range → ℕ
end_of [] = 0
end_of (r ∷ []) = r.last
end_of (r ∷ s ∷ rs) = end_of (s ∷ rs)

-- no range is empty, the first begins here at the earliest, and each other behind the one before it
abbrev pub AreRanges : ℕ → List Range → Type 0
AreRanges low [] = ⊤
AreRanges low (r ∷ rs) = (low ≤ r.first) × ((r.first ≤ r.last) × AreRanges (suc r.last) rs)

pub AreRanges-prop : (low : ℕ) (ranges : List Range) → IsProp (AreRanges low ranges)
AreRanges-prop low [] = Unit-prop
AreRanges-prop low (r ∷ rs) = ×_prop le_prop (×_prop le_prop (AreRanges-prop (suc r.last) rs))
