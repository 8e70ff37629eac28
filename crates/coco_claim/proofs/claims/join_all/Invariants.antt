use Rattle.std.proofs.Common.{◌≡◌, ℕ, ◌+◌, length}
use Rattle.std.specs.Prelude.{All}
use Rattle.coco_claim.specs.Numbers.{times}
use Rattle.coco_claim.specs.Seats.{Drawer, times_drawn}
use Rattle.coco_claim.proofs.claims.join_all.Given as goal

abbrev pub invariant-loop-seat : goal.invariant-loop-seat
invariant-loop-seat l = record {
  table : l.all.table_id ≡ l.initial.all.table_id;
  seats : All (λ (s : Drawer). s.claims.table ≡ l.shared.table_id) l.seat-iterator.rest.items;
  marks : length l.all.me.0.marks + length l.seat-iterator.rest.items ≡ length l.initial.all.me.0.marks + length l.initial.seat-iterator.rest.items;
  drawn : (x : ℕ) → times x l.all.me.0.drawn + times_drawn x l.seat-iterator.rest.items ≡ times x l.initial.all.me.0.drawn + times_drawn x l.initial.seat-iterator.rest.items;
}
