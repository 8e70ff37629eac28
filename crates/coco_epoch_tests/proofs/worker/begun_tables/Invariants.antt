use Rattle.std.proofs.Common.{◌≡◌, length}
use Rattle.coco_epoch_tests.proofs.worker.begun_tables.Given as goal

abbrev pub invariant-loop-table : goal.invariant-loop-table
invariant-loop-table l = length l.tables.items ≡ 6
