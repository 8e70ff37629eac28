use Rattle.std.specs.FinMap.{empty}
use Rattle.coco_standing.proofs.Changing.{ChangedBelow}
use Rattle.coco_standing.proofs.promote.promote_shards.Given as goal
use Rattle.coco_standing.specs.Changes.{PromotesShard}
use Rattle.coco_standing.specs.Places.{is_shard_on}

-- those before are promoted where they are on the node
abbrev pub invariant-loop-place : goal.invariant-loop-place
invariant-loop-place l = ChangedBelow empty (is_shard_on l.layout l.node) (λ _. PromotesShard) l.initial.shards l.shards l.place
