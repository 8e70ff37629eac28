use Rattle.std.proofs.Common.{◌≡◌, ◌-◌, ◌≤◌, [], map, Some, vec_len, vec_capacity}
use Rattle.std.specs.Prelude.{slice_get}
use Rattle.coco_seen.specs.Notes.{fresh}
use Rattle.coco_seen.specs.Rules.{numbers}
use Rattle.coco_seen.specs.Steps.{started}
use Rattle.coco_seen.proofs.seen.Seen.deal.Given as goal

abbrev pub invariant-loop-number : goal.invariant-loop-number
invariant-loop-number g l = record {
  lock : l.seat.table_id ≡ l.self.id;
  root : g.row.S-Root.Denot;
  root_is : slice_get l.initial.seat.me.0.roots 0 ≡ Some root;
  view : l.seat.me ≡ (started root (numbers l.number (l.notes - l.number)), []);
  items : l.list.items ≡ map (fresh l.self.id (Some root)) (numbers 0 l.number);
  count : vec_len l.list ≡ l.number;
  room : l.notes ≤ vec_capacity l.list;
}
