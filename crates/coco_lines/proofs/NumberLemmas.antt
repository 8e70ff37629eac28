-- Whole numbers by their texts.
use Rattle.std.proofs.Common.{◌≡◌, ℕ, List, drop, get_or, true, false, ◌==◌, ◌^◌, ◌<◌, Option, Some, None, IfSome, lt-ltb, sym, ap}
use Rattle.std.specs.Option.{SomeIff}
use Rattle.std.proofs.lemmas.Bool.{eq-eqb}
use Rattle.fast_float.specs.Text.{Parts, scan, digits_of, IsInteger}
use Rattle.serde_json.specs.Data.{unsigned}
use Rattle.serde_json.specs.Read.{number_of, number_from}

pub with_minus : (s : List ℕ) → true ≡ (get_or s 0 0 == 45) → number_of s ≡ number_from true (scan (drop 1 s))
unfolding number_of
with_minus s is = rw (← is)

pub without_minus : (s : List ℕ) → false ≡ (get_or s 0 0 == 45) → number_of s ≡ number_from false (scan s)
unfolding number_of
without_minus s is = rw (← is)

pub whole_number : (p : Parts) (r : Option ℕ) → SomeIff r (IsInteger p × (digits_of p < 2 ^ 64)) (digits_of p) → IfSome r (λ n. number_from false p ≡ Some (unsigned n))
whole_number p None h = tt
whole_number p (Some n) h = rw (lt-ltb _ _ h.0.0.0, h.0.0.1, eq-eqb _ _ h.0.0.2, lt-ltb _ _ h.0.1) (ap (λ m. Some (unsigned m)) (sym h.1))
