use Rattle.std.proofs.Common.{◌≡◌, ◌++◌}
use Rattle.coco_asks.specs.Sorting.{dones_with}
use Rattle.coco_asks.proofs.texts.dones_of.Given as goal

-- those so far, and those of the requests that are left, are all
abbrev pub invariant-loop-request : goal.invariant-loop-request
invariant-loop-request l = l.dones.items ++ dones_with l.epoch l.request-iterator.a.rest.items l.request-iterator.b.rest.items ≡ dones_with l.epoch l.fn.requests.items l.fn.replies.items
