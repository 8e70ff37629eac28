use Rattle.coco_shard.specs.RowState.{IsSettled}
use Rattle.coco_value_tests.proofs.audit.shard_of.Given as goal

-- no row is touched
abbrev pub invariant-loop-table : goal.invariant-loop-table
invariant-loop-table l = IsSettled l.shard
