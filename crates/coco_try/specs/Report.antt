-- What is told of a workload that was worked off.
use Rattle.std.specs.Prelude.{ℕ, ◌+◌, ◌==◌, ℤ, pos, ◌+ℤ◌, List, [], ◌∷◌, ◌++◌, codes, decimal, if◌then◌else◌}
use Rattle.std.specs.Fmt.{signed_decimal}
use Rattle.std.specs.FinMap.{entries}
use Rattle.coco_types.specs.RowKey.{RowKey}
use Rattle.coco_types.specs.declared.value.Value.{Value}
use Rattle.coco_types.specs.declared.value.Value.TheVariants.{Int, Text}
use Rattle.coco_ast.specs.Keyed.{Rows}
use Rattle.coco_lines.specs.declared.class.Class.{Class}
use Rattle.coco_lines.specs.declared.class.Class.TheVariants.{Refused, Same, New}

-- how many of these classes have a Done: those that are same and those that are new
abbrev pub answered_in : List Class → ℕ
answered_in [] = 0
answered_in (Refused e ∷ cs) = answered_in cs
answered_in (Same id ∷ cs) = answered_in cs + 1
answered_in (New r ∷ cs) = answered_in cs + 1

-- the whole number in a row of table `main`, which is the first one, and else 0
abbrev pub amount_in : RowKey × Value → ℤ
amount_in (key, Int number) = if key.table == 0 then number else pos 0
amount_in (key, Text text) = pos 0

abbrev pub sum_of_rows : List (RowKey × Value) → ℤ
sum_of_rows [] = pos 0
sum_of_rows (row ∷ rows) = amount_in row +ℤ sum_of_rows rows

-- the sum of the whole numbers in table `main`
abbrev pub sum_in : Rows → ℤ
sum_in m = sum_of_rows (entries m)

-- three lines: how many requests have a Done, how many epochs there are more, and the sum
abbrev pub report_text : ℕ → ℕ → ℤ → List ℕ
report_text calls epochs sum = codes "calls " ++ decimal calls ++ codes "\nepochs " ++ decimal epochs ++ codes "\nsum " ++ signed_decimal sum ++ codes "\n"
