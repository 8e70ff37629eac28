use Rattle.std.proofs.Common.{◌≡◌, take}
use Rattle.coco_tail.specs.Running.{AreAtTheirPlaces, requests_of}
use Rattle.coco_order.specs.Execution.{Execution}
use Rattle.coco_order.specs.Outcome.{uncommitted}
use Rattle.coco_parallel.specs.Ends.{AreCommitted}
use Rattle.coco_parallel.proofs.tail.tail_of.Given as goal

abbrev pub invariant-loop-place : goal.invariant-loop-place
invariant-loop-place l = record {
  left : (x : Execution) → AreCommitted x l.committed → requests_of l.tail.items ≡ uncommitted x 0 (take l.place l.requests);
  places : AreAtTheirPlaces l.requests l.tail.items;
}
