use Rattle.std.proofs.Common.{◌≡◌, ℕ, ◌≤◌, length}
use Rattle.std.specs.FinMap.{empty}
use Rattle.coco_load.specs.Tables.{shard_at}
use Rattle.coco_load.proofs.tables.empty_shards.Given as goal

abbrev pub invariant-loop : goal.invariant-loop
invariant-loop l = record {
  count : length l.shards.items ≡ l.counter;
  within : l.counter ≤ l.count;
  empty : (p : ℕ) → shard_at l.shards.items p ≡ empty;
}
