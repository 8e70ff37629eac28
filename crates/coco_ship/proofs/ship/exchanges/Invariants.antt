use Rattle.std.proofs.Common.{◌≡◌, ◌⊎◌, ℕ}
use Rattle.coco_ship.specs.Exchanges.{AreAsked, AreExchanges}
use Rattle.coco_ship.specs.Going.{HasAnswered}
use Rattle.coco_ship.specs.Rounds.{GoesOn, Ships}
use Rattle.coco_ship.specs.Shipping.{news}
use Rattle.coco_ship.proofs.ship.exchanges.Given as goal

-- what the exchanges so far did: each had a fault, or all have answered
abbrev pub invariant-loop-exchange : goal.invariant-loop-exchange
invariant-loop-exchange g l = record {
  ships : Ships g.N.Net l.ring l.epoch l.pieces l.initial.net l.initial.lines l.initial.copies l.net l.lines l.copies;
  goes : GoesOn g.N.Net l.ring l.epoch l.pieces l.initial.net l.initial.lines l.initial.copies l.net l.lines l.copies;
  exchanges : AreExchanges l._exchange (AreAsked l.ring l.epoch l.lines) (news (g.N.Net.sent l.initial.net) (g.N.Net.sent l.net)) (g.N.Net.faults l.initial.net) (g.N.Net.faults l.net) ⊎ ((node : ℕ) → HasAnswered l.ring l.lines node);
  alone : l.ring.copies ≡ 0 → g.N.Net.sent l.net ≡ g.N.Net.sent l.initial.net;
}
