use Rattle.std.proofs.Common.{◌≡◌, ◌++◌, List, Option}
use Rattle.std.specs.List.{filter_map}
use Rattle.coco_types.specs.declared.call.Request.{Request}
use Rattle.coco_lost.proofs.requests.filled.Given as goal

abbrev pub invariant-loop-slot : goal.invariant-loop-slot
invariant-loop-slot l = (passed : List (Option Request)) × (l.fn.slots.items ≡ passed ++ l.slot-iterator.rest.items) × (l.requests.items ≡ filter_map (λ slot. slot) passed)
