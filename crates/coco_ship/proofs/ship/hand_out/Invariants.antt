use Rattle.std.proofs.Common.{◌≡◌, ◌≤◌, ℕ}
use Rattle.coco_ship.specs.Rounds.{FitRing}
use Rattle.coco_ship.specs.Taking.{waiting_below, Brings, Hears, OfBoth, OfTables}
use Rattle.coco_ship.proofs.ship.hand_out.Given as goal

-- what the letters of the nodes so far did, and what still waits
abbrev pub invariant-loop-node : goal.invariant-loop-node
invariant-loop-node g l = record {
  ok : OfBoth l.ring (Hears l.ring l.epoch (waiting_below (g.N.Net.waiting l.initial.net) l.node)) l.initial.lines l.initial.copies l.lines l.copies;
  tables : OfTables l.ring (Brings l.ring l.epoch (waiting_below (g.N.Net.waiting l.initial.net) l.node)) l.initial.copies l.copies;
  fit : FitRing l.ring l.epoch l.lines l.copies;
  waits : (p : ℕ) → l.node ≤ p → g.N.Net.waiting l.net p ≡ g.N.Net.waiting l.initial.net p;
  given : g.N.Net.given l.net ≡ g.N.Net.given l.initial.net;
  sent : g.N.Net.sent l.net ≡ g.N.Net.sent l.initial.net;
  faults : g.N.Net.faults l.net ≡ g.N.Net.faults l.initial.net;
  seed : g.N.Net.last_seed l.net ≡ g.N.Net.last_seed l.initial.net;
}
