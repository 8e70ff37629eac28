use Rattle.std.proofs.Common.{◌≡◌, length}
use Rattle.coco_epoch_tests.proofs.made.tables.Given as goal

abbrev pub invariant-loop : goal.invariant-loop
invariant-loop l = length l.tables.items ≡ l.counter
