-- Sums of the rows that were gone over.
use Rattle.std.proofs.Common.{◌≡◌, ℕ, ◌+◌, ◌-◌, ◌*◌, ◌^◌, ◌<◌, ◌≤◌, ℤ, pos, negsuc, neg_ℤ, List, [], ◌∷◌, length, map, sym, ap, subst, ◌∙◌, arith, to_z, of_z}
use Rattle.std.specs.Prelude.{◌+ℤ◌, ◌≤ℤ◌}
use lib.Signed.{mag}
use Rattle.std.proofs.lemmas.Int.{ints, to_z-of_z}
use denote.Ref.{Bor}
use mir.Syntax.{w64, w128}
use Rattle.coco_types.specs.RowKey.{RowKey}
use Rattle.coco_types.specs.declared.value.Value.{Value}
use Rattle.coco_try.specs.Report.{amount_in, sum_of_rows}

-- so many numbers of 64 bits may have this sum
pub record IsSumOf (count : ℕ) (sum : ℤ) : Type 0 where
  pub low : neg_ℤ (pos (count * 2 ^ 63)) ≤ℤ sum
  pub high : sum ≤ℤ pos (count * 2 ^ 63)

-- ---- numbers, as they are passed

pub passed64 : (z : ℤ) → mag z < 2 ^ 63 → to_z w64 (of_z w64 z) ≡ z
passed64 z few = to_z-of_z w64 z (record { sfits = few })

pub passed128 : (z : ℤ) → mag z < 2 ^ 127 → to_z w128 (of_z w128 z) ≡ z
passed128 z few = to_z-of_z w128 z (record { sfits = few })

one_more : (sum v : ℤ) (count : ℕ) → IsSumOf count sum → mag v < 2 ^ 63 → IsSumOf (count + 1) (sum +ℤ v)
one_more sum v count fits few =
    let low = fits.low in
    let high = fits.high in
    record { low = omega (arith, ints, low, few); high = omega (arith, ints, high, few) }

in_range : (sum : ℤ) (count : ℕ) → IsSumOf count sum → count < 2 ^ 64 → mag sum < 2 ^ 127
in_range (pos n) count fits few = let high = fits.high in omega (arith, ints, high, few)
in_range (negsuc n) count fits few = let low = fits.low in omega (arith, ints, low, few)

-- ---- rows

abbrev pub shown : RowKey × Bor Value → RowKey × Value
shown e = (e.0, e.1.now)

module _ (sum value : ℤ) (e : RowKey × Bor Value) (rest more rows : List (RowKey × Bor Value)) where
  -- a row more is gone over
  pub row_summed : rest ≡ e ∷ more → value ≡ amount_in (shown e) → sum +ℤ sum_of_rows (map shown rest) ≡ sum_of_rows (map shown rows)
      → (sum +ℤ value) +ℤ sum_of_rows (map shown more) ≡ sum_of_rows (map shown rows)
  row_summed is amount sums =
      let others = sum_of_rows (map shown more) in
      let joined : (sum +ℤ value) +ℤ others ≡ sum +ℤ (value +ℤ others) = omega (arith, ints) in
      joined ∙ ap (λ v. sum +ℤ (v +ℤ others)) amount ∙ ap (λ r. sum +ℤ sum_of_rows (map shown r)) (sym is) ∙ sums

  pub row_fits : rest ≡ e ∷ more → mag value < 2 ^ 63 → length rest ≤ length rows → IsSumOf (length rows - length rest) sum → IsSumOf (length rows - length more) (sum +ℤ value)
  row_fits is few within fits =
      let counted = ap (length {A = RowKey × Bor Value}) is in
      let one : (length rows - length rest) + 1 ≡ length rows - length more = omega (arith, counted, within) in
      subst (λ n. IsSumOf n (sum +ℤ value)) one (one_more sum value (length rows - length rest) fits few)

  pub row_within : rest ≡ e ∷ more → length rest ≤ length rows → length more ≤ length rows
  row_within is within = let counted = ap (length {A = RowKey × Bor Value}) is in omega (arith, counted, within)

  pub row_passed : rest ≡ e ∷ more → mag value < 2 ^ 63 → length rest ≤ length rows → length rows < 2 ^ 64 → IsSumOf (length rows - length rest) sum
      → to_z w128 (of_z w128 (sum +ℤ value)) ≡ sum +ℤ value
  row_passed is few within count fits =
      passed128 (sum +ℤ value) (in_range (sum +ℤ value) (length rows - length more) (row_fits is few within fits) (omega (arith, count)))

-- all rows are gone over
pub all_summed : (sum : ℤ) (rest rows : List (RowKey × Bor Value)) → rest ≡ [] → sum +ℤ sum_of_rows (map shown rest) ≡ sum_of_rows (map shown rows) → sum ≡ sum_of_rows (map shown rows)
all_summed sum rest rows none sums =
    let zero : sum ≡ sum +ℤ pos 0 = omega (arith, ints) in
    zero ∙ ap (λ r. sum +ℤ sum_of_rows (map shown r)) (sym none) ∙ sums
