-- How counts rise, and which call begins an epoch.
use Rattle.std.specs.Prelude.{ℕ, ◌≤◌, ◌<◌, ◌+◌, ◌-◌, ◌^◌, min, Bool, ◌==◌, ◌&&◌, ◌||◌, ◌↔◌, IsTrue, not, if◌then◌else◌}

-- a count that never falls, and rises exactly where the test holds
abbrev pub RisesWhere : Bool → ℕ → ℕ → Type 0
RisesWhere test old new = (old ≤ new) × ((old < new) ↔ IsTrue test)

-- the call for point 1 of node 0 begins an epoch
abbrev pub begins : ℕ → ℕ → Bool
begins node point = (node == 0) && (point == 1)

-- the count of epochs after a call; at the greatest number of 64 bits it stays
abbrev pub begun_after : ℕ → ℕ → ℕ → ℕ
begun_after count node point = if begins node point then min (count + 1) (2 ^ 64 - 1) else count

-- whether a pair was asked for since the epoch began, after a call; asked says it of the time before
abbrev pub asked_after : (ℕ → ℕ → Bool) → ℕ → ℕ → ℕ → ℕ → Bool
asked_after asked node point n p = ((n == node) && (p == point)) || (not (begins node point) && asked n p)
