use Rattle.std.proofs.Common.{◌≡◌}
use Rattle.coco_epoch_tests.proofs.reads.read_all.Given as goal

abbrev pub invariant-loop-row : goal.invariant-loop-row
invariant-loop-row g l = l.pass.lock ≡ l.shard.id
