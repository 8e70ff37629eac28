use Rattle.std.proofs.Common.{◌≡◌, ◌<◌, ◌≤◌, ℕ, Bool, List, true}
use Rattle.std.specs.List.{slice_get}
use Rattle.coco_chief.specs.Chief.{Chief}
use Rattle.coco_letters.specs.Telling.{Adds, IsOfSettling}
use Rattle.coco_letters.specs.Turns.{OnlySends}
use Rattle.coco_letters.specs.Worlds.{GoesBetween, SameEntries}
use Rattle.coco_vote.specs.Asking.{IsLater}
use Rattle.coco_vote.specs.Taking.{StayWhole}
use Rattle.coco_finish.specs.Exchanges.{AreInStep}
use Rattle.coco_finish.specs.Finishing.{AllCanFinish}
use Rattle.coco_finish.specs.Stopping.{AllHaveNewest, StopSome}
use Rattle.coco_finish.proofs.stopping.stop_last.Given as goal

-- what came of the nodes so far; the others are as they were
abbrev pub invariant-loop-node : goal.invariant-loop-node
invariant-loop-node g l = record {
  stops : StopSome l.epoch l.node (g.P.Power.stopped l.initial.power) (g.P.Power.stopped l.power) l.initial.cores l.initial.voters (g.N.Net.sent l.initial.net) l.cores l.voters (g.N.Net.sent l.net);
  whole : StayWhole (g.P.Power.stops_seen l.initial.power) (g.P.Power.stops_seen l.power) l.initial.voters l.voters;
  waits : (n : ℕ) → l.node ≤ n → (slice_get l.cores n ≡ slice_get l.initial.cores n) × (slice_get l.voters n ≡ slice_get l.initial.voters n);
  counted : (n : ℕ) → l.node ≤ n → n < 8 → g.P.Power.stopped l.power n ≡ g.P.Power.stopped l.initial.power n;
  said : Adds (IsOfSettling l.epoch) (g.N.Net.sent l.initial.net) (g.N.Net.sent l.net);
  newest : AllHaveNewest l.epoch l.cores;
  can : AllCanFinish l.epoch l.initial.cores → AllCanFinish l.epoch l.cores;
  in_step : (chief : Chief) (marks : List Bool) → AreInStep l.epoch l.initial.cores chief (g.N.Net.sent l.initial.net) marks → AreInStep l.epoch l.cores chief (g.N.Net.sent l.net) marks;
  early : g.P.Power.early_stops l.power ≡ g.P.Power.early_stops l.initial.power;
  later : IsLater g.P.Power l.initial.power l.power;
  asked : (n : ℕ) → n < l.node → g.P.Power.asked l.power n 6 ≡ true;
  world : (chief : Chief) → GoesBetween (g.P.Power.stopped l.initial.power) (g.P.Power.stopped l.power) SameEntries (record { cores = l.initial.cores; chief = chief; sent = g.N.Net.sent l.initial.net }) (record { cores = l.cores; chief = chief; sent = g.N.Net.sent l.net });
  sends : OnlySends g.N.Net l.initial.net l.net;
}
