-- The rule of the claims' table, and what its steps do to a seat's view.
use Rattle.std.specs.Prelude.{◌≡◌, ℕ, ◌+◌, ◌≤◌, ◌<◌, [], ◌∷◌, ◌++◌, length, take, drop, slice_index, sum_by, All}
use Rattle.std.specs.List.{range_with_len}
use mathlib.Core.Option.{some}
use lib.ListN.{get_elem?}
use Rattle.atomic_table.specs.Table.{State, Me, Step}
use Rattle.coco_claim.specs.declared.hand.Plan.{Plan}
use Rattle.coco_claim.specs.declared.hand.Hand.{Hand}
use Rattle.coco_claim.specs.Numbers.{times, once_below, late}

-- the first seat: all marks, no number
abbrev pub first_hand : Plan → Hand
first_hand p = record { plan = p; marks = range_with_len 0 p.seats; drawn = [] }

-- A view without a mark has no number. No view has more numbers of n or greater than marks
pub record IsFair (n : ℕ) (v : Hand) : Type 0 where
  pub unmarked : v.marks ≡ [] → v.drawn ≡ []
  pub ended : late n v.drawn ≤ length v.marks

-- Each number below word 1 stands in one view, once, and no other number does. So does each mark below the number of seats.
-- The counts of all marks and all numbers, and the last two parts, keep the counter small: at most one number of n or greater for each mark
pub record Claimed (p : Plan) (s : State (Unit {0}) Hand) : Type 0 where
  pub words : length s.words ≡ 2
  pub each_number : (x : ℕ) → sum_by (λ v. times x v.drawn) s.views ≡ once_below (slice_index s.words 1) x
  pub each_mark : (m : ℕ) → sum_by (λ v. times m v.marks) s.views ≡ once_below p.seats m
  pub all_marks : sum_by (λ v. length v.marks) s.views ≡ p.seats
  pub all_numbers : sum_by (λ v. length v.drawn) s.views ≡ slice_index s.words 1
  pub each_view : (id : ℕ) (v : Hand) → get_elem? s.views id ≡ some v → IsFair p.n v
  pub counter : slice_index s.words 1 ≤ p.n + sum_by (λ v. late p.n v.drawn) s.views

abbrev pub Sat : Type 0
Sat = Me (Unit {0}) Hand

-- the seat gains the number found, which is greater than all that it had, and no less than their count
abbrev pub Drawn : Step (Unit {0}) → Sat → ℕ → Sat → Type 0
Drawn st m x m' = (m' ≡ (record { plan = m.0.plan; marks = m.0.marks; drawn = m.0.drawn ++ x ∷ [] }, m.1)) × All (λ y. y < x) m.0.drawn × (length m.0.drawn ≤ x)

-- the stepping seat gives its first mark away
abbrev pub less_a_mark : Hand → Hand
less_a_mark v = record { plan = v.plan; marks = drop 1 v.marks; drawn = v.drawn }

-- the new seat has that mark, and no number
abbrev pub one_mark : Hand → Hand
one_mark v = record { plan = v.plan; marks = take 1 v.marks; drawn = [] }

-- both seats' marks and numbers
abbrev pub both : Hand → Hand → Hand
both v w = record { plan = v.plan; marks = v.marks ++ w.marks; drawn = v.drawn ++ w.drawn }

abbrev pub spent : Hand
spent = record { plan = record { n = 0; seats = 0 }; marks = []; drawn = [] }
