-- Bytes in place: at the front of an array, with zeros behind them.
use Rattle.std.specs.Prelude.{◌≡◌, ℕ, ◌-◌, ◌≤◌, List, ◌++◌, length, take, drop, replicate}
use Rattle.std.proofs.Common.{arith, ap, sym, ◌∙◌, take-append-drop, length-take-le}

-- the bytes, with zeros behind them up to so many
abbrev pub padded : ℕ → List ℕ → List ℕ
padded most xs = xs ++ replicate (most - length xs) 0

-- what follows the first n of so many bytes is zeros
pub record IsPadded (most n : ℕ) (bytes : List ℕ) : Type 0 where
  pub within : n ≤ most
  pub whole : length bytes ≡ most
  pub zeros : drop n bytes ≡ replicate (most - n) 0

-- the array and the number follow from the bytes
pub length-padded : (most n : ℕ) (bytes : List ℕ) → IsPadded most n bytes → length (take n bytes) ≡ n
length-padded most n bytes is = length-take-le n bytes (omega (arith, is.whole, is.within))

pub padded-take : (most n : ℕ) (bytes : List ℕ) → IsPadded most n bytes → padded most (take n bytes) ≡ bytes
padded-take most n bytes is =
    ap (λ k. take n bytes ++ replicate (most - k) 0) (length-padded most n bytes is) ∙ ap (λ zs. take n bytes ++ zs) (sym is.zeros) ∙ take-append-drop n bytes
