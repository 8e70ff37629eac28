use Rattle.std.proofs.Common.{◌≡◌, ℕ, ◌<◌}
use Rattle.coco_lost.proofs.Asking.{WasAsked}
use Rattle.coco_lost.proofs.stopping.stop_early.Given as goal

-- none has stopped so far, and nothing has changed but for what was asked
abbrev pub invariant-loop-node : goal.invariant-loop-node
invariant-loop-node g l = record {
  cores : l.cores ≡ l.initial.cores;
  voters : l.voters ≡ l.initial.voters;
  asked : WasAsked l.node l.point (g.P.Power.begun l.initial.power) (g.P.Power.begun l.power) (g.P.Power.asked l.initial.power) (g.P.Power.asked l.power);
  seen : g.P.Power.stops_seen l.power ≡ g.P.Power.stops_seen l.initial.power;
  early : g.P.Power.early_stops l.power ≡ g.P.Power.early_stops l.initial.power;
  stopped : (n : ℕ) → n < 8 → g.P.Power.stopped l.power n ≡ g.P.Power.stopped l.initial.power n;
}
