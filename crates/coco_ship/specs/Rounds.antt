-- What rounds of a ship phase leave.
use Rattle.std.specs.Prelude.{◌≡◌, ℕ, ◌*◌, ◌≤◌, ◌++◌, length, List, All as Each, Contains}
use Rattle.coco_types.specs.declared.call.Piece.{Piece}
use Rattle.coco_net.specs.declared.net.Net.{Ghosts as NetGhosts}
use Rattle.coco_copy.specs.CopyState.{CopyState}
use Rattle.coco_ship.specs.declared.line.Line.{Line}
use Rattle.coco_ship.specs.declared.ring.Ring.{Ring}
use Rattle.coco_ship.specs.Placing.{IsRing}
use Rattle.coco_ship.specs.Shipping.{news, ArePhase, AreWhole, AreWritten, HaveAnswered}
use Rattle.coco_ship.specs.Taking.{Brings, OfBoth, OfTables}
use Rattle.coco_ship.specs.Going.{IsDoneBy, IsGoing}
use Rattle.coco_ship.specs.There.{AddsRight, HaveCome, StaysExact}

-- Each copy of the ring has a line and a table, and the tables are of this epoch.
pub record FitRing (ring : Ring) (epoch : ℕ) (lines : List Line) (tables : List CopyState) : Type 0 where
  pub is_ring : IsRing ring
  pub line_count : length lines ≡ ring.partitions * ring.copies
  pub table_count : length tables ≡ ring.partitions * ring.copies
  pub begun : Each (λ t. t.epoch ≡ epoch) tables

-- What rounds of the phase do, also where memory runs out: the letters that are sent are of the phase, those that are
-- given were sent, rows change only by them, the count of faults doesn't fall, and no disturbance is asked for.
pub record Passes {N : Type 0} (nets : NetGhosts N) (ring : Ring) (epoch : ℕ) (net : N) (tables : List CopyState) (net_after : N) (lines_after : List Line) (tables_after : List CopyState) : Type 0 where
  pub sends : nets.sent net_after ≡ nets.sent net ++ news (nets.sent net) (nets.sent net_after)
  pub gives : nets.given net_after ≡ nets.given net ++ news (nets.given net) (nets.given net_after)
  pub phase : ArePhase epoch (news (nets.sent net) (nets.sent net_after))
  pub gains : OfTables ring (Brings ring epoch (news (nets.given net) (nets.given net_after))) tables tables_after
  pub fit : FitRing ring epoch lines_after tables_after
  pub were_sent : Each (Contains (nets.sent net_after)) (news (nets.given net) (nets.given net_after))
  pub faults_rise : nets.faults net ≤ nets.faults net_after
  pub seed_stays : nets.last_seed net_after ≡ nets.last_seed net

-- Of these pieces they ship besides, also where memory runs out: what pends was written by them, and what was sent is right.
pub record Ships {N : Type 0} (nets : NetGhosts N) (ring : Ring) (epoch : ℕ) (pieces : List Piece) (net : N) (lines : List Line) (tables : List CopyState) (net_after : N) (lines_after : List Line) (tables_after : List CopyState) : Type 0 where
  pub passes : Passes nets ring epoch net tables net_after lines_after tables_after
  pub written : AreWritten ring pieces tables_after
  pub right : AddsRight ring epoch pieces (nets.sent net) (nets.given net) lines (nets.sent net_after) (nets.given net_after)

-- The phase goes on with the lines as they are now: they are exact still, and done by the letters given.
pub record GoesOn {N : Type 0} (nets : NetGhosts N) (ring : Ring) (epoch : ℕ) (pieces : List Piece) (net : N) (lines : List Line) (tables : List CopyState) (net_after : N) (lines_after : List Line) (tables_after : List CopyState) : Type 0 where
  pub going : IsGoing ring epoch pieces (nets.sent net_after) lines_after tables_after
  pub exact : StaysExact ring epoch pieces (nets.given net) lines (nets.given net_after) lines_after
  pub done : OfBoth ring (IsDoneBy ring epoch (news (nets.given net) (nets.given net_after))) lines tables lines_after tables_after

-- The phase has ended: each copy said that it has all, and has it.
pub record HasEnded {N : Type 0} (nets : NetGhosts N) (ring : Ring) (epoch : ℕ) (pieces : List Piece) (net : N) (lines : List Line) (net_after : N) (tables_after : List CopyState) : Type 0 where
  pub whole : AreWhole ring epoch pieces tables_after
  pub there : HaveCome ring epoch pieces (nets.given net) lines (nets.given net_after)
  pub answered : HaveAnswered ring epoch (news (nets.given net) (nets.given net_after))
