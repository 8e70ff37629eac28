use Rattle.std.proofs.Common.{◌<◌}
use Rattle.std.specs.List.{All}
use Rattle.coco_tables.proofs.attempts.one_by_one.Given as goal

abbrev pub invariant-loop-who : goal.invariant-loop-who
invariant-loop-who l = All (λ who. who < l.count) l.order.items

abbrev pub invariant-loop : goal.invariant-loop
invariant-loop l = All (λ who. who < l.count) l.order.items
