use Rattle.std.proofs.Common.{◌≡◌, ◌++◌}
use Rattle.coco_order.specs.Execution.{concat}
use Rattle.coco_parallel.proofs.ends.all_pieces.Given as goal

abbrev pub invariant-loop-list : goal.invariant-loop-list
invariant-loop-list l = l.all ++ concat l.list-iterator.rest.items ≡ concat l.fn.lists.items

abbrev pub invariant-loop-piece : goal.invariant-loop-piece
invariant-loop-piece l = (l.all ++ l.piece-iterator.rest.items) ++ concat l.list-iterator.rest.items ≡ concat l.fn.lists.items
