use Rattle.std.proofs.Common.{◌≡◌, ◌-◌, ◌≤◌, length, map}
use Rattle.std.specs.Prelude.{◌+ℤ◌}
use Rattle.coco_try.specs.Report.{sum_of_rows}
use Rattle.coco_try.proofs.SumLemmas.{IsSumOf, shown}
use Rattle.coco_try.proofs.report.sum_of.Given as goal

-- the sum so far, and that of the rows to come
abbrev pub invariant-loop-key : goal.invariant-loop-key
invariant-loop-key l = record {
  sums : l.sum +ℤ sum_of_rows (map shown l.key-iterator) ≡ sum_of_rows (map shown l.rows.entries);
  fits : IsSumOf (length l.rows.entries - length l.key-iterator) l.sum;
  rest : length l.key-iterator ≤ length l.rows.entries;
}
