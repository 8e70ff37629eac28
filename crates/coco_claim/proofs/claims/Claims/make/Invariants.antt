use Rattle.std.proofs.Common.{◌≡◌, ◌-◌, ◌≤◌, [], map, vec_len}
use Rattle.std.specs.List.{range_with_len}
use Rattle.std.specs.Vec.{vec_capacity}
use Rattle.coco_claim.proofs.Making.{marked, new_seat}
use Rattle.coco_claim.proofs.claims.Claims.make.Given as goal

abbrev pub invariant-loop : goal.invariant-loop
invariant-loop l = record {
  table : l.first.table_id ≡ l.table.shared.table_id;
  hand : l.first.me ≡ (marked l.plan l.counter (l.plan.seats - l.counter), []);
  row : l.row.items ≡ map (new_seat l.table.shared.table_id l.plan) (range_with_len 0 l.counter);
  room : (vec_len l.row ≡ l.counter) × (l.seats ≤ vec_capacity l.row);
}
