use Rattle.std.proofs.Common.{◌≡◌, ℕ, ◌*◌, ◌<◌, ◌≤◌, length, slice_index_or, vec_capacity, vec_len}
use Rattle.std.specs.FinMap.{empty}
use Rattle.coco_copy.specs.CopyState.{begun}
use Rattle.coco_query.specs.Frozen.{table_at}
use Rattle.coco_query.specs.declared.frozen.Frozen.TheVariants.{Copy}
use Rattle.coco_query.proofs.tables.first_copies.Given as goal

-- the first copy of each partition so far was taken, and those behind them are still there
abbrev pub invariant-loop-partition : goal.invariant-loop-partition
invariant-loop-partition l = record {
  within : l.partition ≤ l.partitions;
  room : vec_capacity l.tables ≡ l.partitions;
  still : vec_len l.copies ≡ l.partitions * l.count;
  count : length l.tables.items ≡ l.partition;
  taken : (p : ℕ) → p < l.partition → table_at l.tables.items p ≡ Copy (slice_index_or l.fn.copies.items (p * l.count) (begun 0 empty));
  rest : (i : ℕ) → l.partition * l.count ≤ i → slice_index_or l.copies.items i (begun 0 empty) ≡ slice_index_or l.fn.copies.items i (begun 0 empty);
}
