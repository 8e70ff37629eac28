use Rattle.std.proofs.Common.{◌≡◌, ℕ, ◌≤◌}
use Rattle.std.specs.FinMap.{empty}
use Rattle.coco_load.specs.Tables.{shard_at}
use Rattle.coco_standing.proofs.Changing.{ChangedBelow}
use Rattle.coco_standing.proofs.Moving.{IsShardFrom}
use Rattle.coco_standing.proofs.take.take_shards.Given as goal
use Rattle.coco_standing.specs.Places.{is_shard_on}

-- those before are taken where they are on the node, and from here on the other set is as it was
abbrev pub invariant-loop-place : goal.invariant-loop-place
invariant-loop-place l = record {
  taken : ChangedBelow empty (is_shard_on l.layout l.node) (IsShardFrom l.initial.from) l.initial.shards l.shards l.place;
  rest : (i : ℕ) → l.place ≤ i → shard_at l.from i ≡ shard_at l.initial.from i;
}
