use Rattle.std.proofs.Common.{◌≡◌, length}
use Rattle.std.specs.Prelude.{◌↔◌, IsTrue}
use Rattle.coco_store.specs.Placement.{IsHeldBy}
use Rattle.coco_members.proofs.PlaceLemmas.{AtPlaces}
use Rattle.coco_members.proofs.nodes.held_by.Given as goal

abbrev pub invariant-loop-partition : goal.invariant-loop-partition
invariant-loop-partition l = record {
  count : length l.held.items ≡ l.partition;
  each : AtPlaces (λ p is_held. IsTrue is_held ↔ IsHeldBy l.layout p l.node) l.held.items;
}
