use Rattle.std.proofs.Common.{◌≡◌, length}
use Rattle.coco_members.specs.Opened.{BeginsAnew}
use Rattle.coco_members.proofs.PlaceLemmas.{AtPlaces}
use Rattle.coco_members.proofs.nodes.cores_of.Given as goal

abbrev pub invariant-loop-node : goal.invariant-loop-node
invariant-loop-node l = record {
  count : length l.cores.items ≡ l.node;
  each : AtPlaces (BeginsAnew l.newest) l.cores.items;
}
