-- Which calls of an object in memory fail.
use Rattle.std.specs.Prelude.{ℕ, ◌+◌, ◌-◌, ◌^◌, min, List, Bool, ◌&&◌, nat_eq, nat_lt, if◌then◌else◌}
use Rattle.std.specs.List.{list_any}

-- the calls of an object in memory: the numbers of those that fail, how many there were, and how many of them failed
pub record Plan : Type 0 where
  pub fails : List ℕ
  pub calls : ℕ
  pub faults : ℕ

-- the next call fails: its number is listed, and the count of faults isn't at its end
abbrev pub next_fails : Plan → Bool
next_fails p = list_any (λ n. nat_eq n p.calls) p.fails && nat_lt p.faults (2 ^ 64 - 1)

-- after one call more; a count stands still at its end
abbrev pub after_call : Plan → Plan
after_call p = record {
  fails = p.fails;
  calls = min (p.calls + 1) (2 ^ 64 - 1);
  faults = (if next_fails p then p.faults + 1 else p.faults);
}
