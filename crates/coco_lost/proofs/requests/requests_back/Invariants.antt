use Rattle.std.proofs.Common.{◌≡◌, ◌++◌, List}
use Rattle.coco_types.specs.declared.call.Done.{Done}
use Rattle.coco_lost.proofs.RequestLemmas.{Filled}
use Rattle.coco_lost.proofs.requests.requests_back.Given as goal

abbrev pub invariant-loop-done : goal.invariant-loop-done
invariant-loop-done l = (passed : List Done) × (l.fn.dones ≡ passed ++ l.done-iterator.rest.items) × Filled l.ids passed l.slots.items
