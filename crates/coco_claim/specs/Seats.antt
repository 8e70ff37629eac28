-- What contracts see of claims and of their seats.
use Rattle.std.specs.Prelude.{◌≡◌, ℕ, ◌<◌, Bool, nat_le, List, [], ◌∷◌, ◌++◌, map, sum_by, All}
use Rattle.std.specs.List.{list_any, range_with_len}
use Rattle.atomic_table.specs.Seated.{TableId}
use Rattle.coco_claim.specs.Numbers.{times}

-- Which claims they are: their table, how many numbers are wanted, and how many seats draw them
pub record Round : Type 0 where
  pub table : TableId
  pub n : ℕ
  pub seats : ℕ

-- A seat: the claims that it belongs to, its mark, and the numbers that it drew, in order
pub record Drawer : Type 0 where
  pub claims : Round
  pub mark : ℕ
  pub drawn : List ℕ

-- the seats as they are made: each mark below their number, in order, and nothing drawn
abbrev pub new_seats : Round → List Drawer
new_seats r = map (λ mark. record { claims = r; mark = mark; drawn = [] }) (range_with_len 0 r.seats)

-- whether a number of n or more was drawn; such a seat draws no more
abbrev pub has_ended : Drawer → Bool
has_ended s = list_any (λ x. nat_le s.claims.n x) s.drawn

-- one number more, greater than all that this seat drew before
abbrev pub Draws : Drawer → Drawer → Type 0
Draws s t = (x : ℕ) × (t ≡ record { claims = s.claims; mark = s.mark; drawn = s.drawn ++ x ∷ [] }) × All (λ y. y < x) s.drawn

-- how often these seats drew the number x
abbrev pub times_drawn : ℕ → List Drawer → ℕ
times_drawn x seats = sum_by (λ s. times x s.drawn) seats
