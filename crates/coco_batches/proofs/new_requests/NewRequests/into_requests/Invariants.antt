use Rattle.std.proofs.Common.{◌≡◌, ◌++◌}
use Rattle.coco_batches.specs.Asking.{requests_of}
use Rattle.coco_batches.proofs.new_requests.NewRequests.into_requests.Given as goal

-- what is there and what is to come are all
abbrev pub invariant-loop-id : goal.invariant-loop-id
invariant-loop-id l = l.requests.items ++ requests_of l.id-iterator ≡ l.fn.self
