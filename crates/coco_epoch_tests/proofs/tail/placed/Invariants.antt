use Rattle.std.proofs.Common.{◌≡◌, ◌++◌, map}
use Rattle.std.specs.Vec.Iter.{into_iter_items}
use Rattle.coco_tail.specs.Running.{requests_of}
use Rattle.coco_epoch_tests.proofs.tail.placed.Given as goal

abbrev pub invariant-loop-request : goal.invariant-loop-request
invariant-loop-request l = requests_of l.tail.items ++ into_iter_items l.request-iterator ≡ l.fn.requests.items
