-- How often a number stands in a list.
use Rattle.std.specs.Prelude.{ℕ, ◌==◌, if◌then◌else◌, nat_lt, nat_le, List, count_by}

abbrev pub times : ℕ → List ℕ → ℕ
times x xs = count_by (λ y. y == x) xs

-- how often x stands among the numbers below n
abbrev pub once_below : ℕ → ℕ → ℕ
once_below n x = if nat_lt x n then 1 else 0

-- how many of these are n or greater
abbrev pub late : ℕ → List ℕ → ℕ
late n xs = count_by (λ x. nat_le n x) xs
