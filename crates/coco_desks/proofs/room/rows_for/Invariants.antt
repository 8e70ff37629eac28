use Rattle.std.proofs.Common.{◌≡◌, ◌≤◌, All, vec_len, vec_capacity}
use Rattle.coco_desks.specs.Desks.{HasRoom}
use Rattle.coco_desks.proofs.room.rows_for.Given as goal

abbrev pub invariant-loop : goal.invariant-loop
invariant-loop g l = record {
  count : vec_len l.rows ≡ l.counter;
  room : l.workers ≤ vec_capacity l.rows;
  each : All (λ row. HasRoom l.count row) l.rows.items;
}
