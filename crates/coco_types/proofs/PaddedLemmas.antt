-- Bytes with zeros behind them are in place, and stand at the front.
use Rattle.std.proofs.Common.{◌≡◌, ℕ, ◌-◌, ◌≤◌, List, length, take, replicate, arith, length-append}
use Rattle.std.proofs.Math.Seq.{drop-append_seam, take-append_seam}
use Rattle.std.proofs.lemmas.List.{length-replicate}
use Rattle.coco_types.specs.Padded.{padded, IsPadded}

pub padded_is : (most : ℕ) (xs : List ℕ) → length xs ≤ most → IsPadded most (length xs) (padded most xs)
padded_is most xs within = record {
  within = within;
  whole = omega (arith, length-append xs (replicate (most - length xs) 0), length-replicate {A = ℕ} (most - length xs) 0);
  zeros = drop-append_seam xs _;
}

pub padded_front : (most : ℕ) (xs : List ℕ) → take (length xs) (padded most xs) ≡ xs
padded_front most xs = take-append_seam xs _
