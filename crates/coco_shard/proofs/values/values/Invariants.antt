use Rattle.std.proofs.Common.{◌≡◌, ◌++◌}
use Rattle.coco_shard.specs.Kept.{values_in}
use Rattle.coco_shard.proofs.values.values.Given as goal

-- the values so far, and those of the rows to come
abbrev pub invariant-loop-key : goal.invariant-loop-key
invariant-loop-key l = l.values.items ++ values_in l.newest l.key-iterator ≡ values_in l.newest l.rows.entries
