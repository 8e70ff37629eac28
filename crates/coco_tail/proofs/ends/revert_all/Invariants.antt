use Rattle.std.proofs.Common.{refl}
use Rattle.coco_tail.proofs.ShardLemmas.{SettledBelow}
use Rattle.coco_tail.proofs.ends.revert_all.Given as goal

-- those before are settled, the others are as they were
abbrev pub invariant-loop-place : goal.invariant-loop-place
invariant-loop-place l = SettledBelow (λ r. r.stable) refl l.initial.shards l.shards l.place
