use Rattle.std.proofs.Common.{◌≡◌, ℕ, ◌≤◌, length, get_or}
use Rattle.std.specs.FinMap.{empty}
use Rattle.coco_copy.specs.CopyState.{begun}
use Rattle.coco_load.proofs.tables.empty_copies.Given as goal

abbrev pub invariant-loop : goal.invariant-loop
invariant-loop l = record {
  count : length l.copies.items ≡ l.counter;
  within : l.counter ≤ l.count;
  empty : (i : ℕ) → get_or l.copies.items i (begun 0 empty) ≡ begun 0 empty;
}
