-- A seat of the table, as a seat of claims.
use Rattle.std.specs.Prelude.{◌≡◌, Bool, [], ◌∷◌, slice_index}
use Rattle.atomic_table.specs.declared.shared.Seat.{Seat}
use Rattle.coco_claim.specs.declared.hand.Hand.{Hand}
use Rattle.coco_claim.specs.Seats.{Drawer, has_ended}

abbrev pub drawer_of : Seat (Unit {0}) Hand → Drawer
drawer_of s = record {
  claims = record { table = s.table_id; n = s.me.0.plan.n; seats = s.me.0.plan.seats };
  mark = slice_index s.me.0.marks 0;
  drawn = s.me.0.drawn;
}

-- it holds no slot and has one mark, and the flag says whether it draws no more
pub record Sits (s : Seat (Unit {0}) Hand) (ended : Bool) : Type 0 where
  pub free : s.me.1 ≡ []
  pub one : s.me.0.marks ≡ slice_index s.me.0.marks 0 ∷ []
  pub flag : ended ≡ has_ended (drawer_of s)
