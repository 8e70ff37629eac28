use Rattle.std.proofs.Common.{◌≡◌, length, drop}
use Rattle.coco_members.specs.Opened.{IsFirstOf}
use Rattle.coco_members.proofs.PlaceLemmas.{AtPlaces}
use Rattle.coco_members.proofs.nodes.voters_of.Given as goal

abbrev pub invariant-loop-node : goal.invariant-loop-node
invariant-loop-node l = record {
  count : length l.voters.items ≡ l.node;
  rest : l.logs.items ≡ drop l.node l.initial.logs.items;
  each : AtPlaces (IsFirstOf l.layout l.initial.logs.items) l.voters.items;
}
