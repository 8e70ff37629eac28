use Rattle.std.proofs.Common.{◌≡◌, drop, max}
use Rattle.coco_shard.specs.Kept.{most_rts}
use Rattle.coco_shard.proofs.values.greatest.Given as goal

-- the greatest time so far, and that of the keys to come
abbrev pub invariant-loop-key : goal.invariant-loop-key
invariant-loop-key l = max l.most (most_rts l.rows.entries (drop l.key-index l.touched)) ≡ most_rts l.rows.entries l.touched
