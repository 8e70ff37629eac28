use Rattle.std.proofs.Common.{◌≡◌, ◌⊎◌, ◌<◌, ◌≤◌, ℕ, length}
use Rattle.coco_types.specs.RowKey.{RowKey}
use Rattle.coco_tail.specs.Shards.{shard_at}
use Rattle.coco_shard.specs.RowState.{row_at}
use Rattle.coco_parallel.proofs.ends.greatest_read.Given as goal

-- no row of the shards so far has a greater read time, and one has it, if it isn't 0
abbrev pub invariant-loop-shard : goal.invariant-loop-shard
invariant-loop-shard l = record {
  bounds : (p : ℕ) (k : RowKey) → p < l.shard-index → (row_at (shard_at l.shards p) k).rts ≤ l.most;
  attained : (l.most ≡ 0) ⊎ ((p : ℕ) × (k : RowKey) × (p < length l.shards) × ((row_at (shard_at l.shards p) k).rts ≡ l.most));
}
