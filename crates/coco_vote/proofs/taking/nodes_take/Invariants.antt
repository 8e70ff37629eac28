use Rattle.std.proofs.Common.{◌≡◌, ◌<◌, ◌≤◌, ℕ, Bool, List, length}
use Rattle.coco_chief.specs.Chief.{Chief}
use Rattle.coco_letters.specs.Telling.{Adds, IsOfVote}
use Rattle.coco_letters.specs.Turns.{AreFresh, AreSent, Counts}
use Rattle.coco_letters.specs.Worlds.{GoesBetween}
use Rattle.coco_store.specs.Contents.{Contents}
use Rattle.coco_vote.specs.declared.step.Stops.TheVariants.{Never}
use Rattle.coco_vote.specs.Nearing.{all_ahead, Nears}
use Rattle.coco_vote.specs.Preparing.{have_durable, Ballot, KeepsVoted, MayForce, RestsVoted}
use Rattle.coco_vote.specs.Taking.{AreHeld, AreMarked, AreReady, AreTold, AreVoting, CountsStops, HasGiven, HaveLogs, KeepsCores, UnlessLost, StayWhole}
use Rattle.coco_vote.specs.Voting.{PreparesOnly}
use Rattle.coco_vote.specs.Keeping.{KeepsRest}
use Rattle.coco_vote.proofs.taking.nodes_take.Given as goal

-- what came of the nodes so far
abbrev pub invariant-loop-node : goal.invariant-loop-node
invariant-loop-node g l = record {
  voting : UnlessLost l.stops (AreVoting l.epoch l.cores);
  cores : KeepsCores l.epoch l.initial.cores l.cores;
  told : AreTold l.epoch l.initial.cores (g.N.Net.sent l.initial.net) (g.P.Power.asked l.initial.power) → AreTold l.epoch l.cores (g.N.Net.sent l.net) (g.P.Power.asked l.power);
  marked : AreMarked l.voters (g.P.Power.asked l.power);
  nears : Nears l.stops (all_ahead l.epoch l.initial.cores l.initial.voters (length l.initial.cores)) (all_ahead l.epoch l.cores l.voters (length l.initial.cores));
  votes : l.stops ≡ Never → (n : ℕ) → n < l.node → HasGiven l.epoch n (g.N.Net.waiting l.initial.net n) (g.N.Net.fresh l.net);
  waits : (p : ℕ) → l.node ≤ p → g.N.Net.waiting l.net p ≡ g.N.Net.waiting l.initial.net p;
  says : Adds (IsOfVote l.epoch) (g.N.Net.sent l.initial.net) (g.N.Net.sent l.net);
  sent : AreSent (g.N.Net.sent l.net) (g.N.Net.waiting l.net);
  files : (c : Contents) (hold : ℕ → List Bool) → let b : Ballot = record { epoch = l.epoch; pieces = l.pieces; held = hold } in
      AreHeld hold l.initial.voters → MayForce c b → c.setting.entry.layout.nodes ≡ length l.initial.cores → HaveLogs c l.initial.voters → RestsVoted c b (have_durable l.epoch l.initial.cores) (g.H.Host.reads l.initial.host) (g.H.Host.may_leave l.initial.host)
      → KeepsVoted g.H.Host c b l.initial.host l.host × RestsVoted c b (have_durable l.epoch l.cores) (g.H.Host.reads l.host) (g.H.Host.may_leave l.host);
  ready : AreReady l.voters (g.H.Host.reads l.host) (g.H.Host.may_leave l.host);
  rest : KeepsRest g.H.Host g.N.Net g.P.Power l.initial.voters l.voters l.initial.host l.host l.initial.net l.net l.initial.power l.power;
  whole : StayWhole (g.P.Power.stops_seen l.initial.power) (g.P.Power.stops_seen l.power) l.initial.voters l.voters;
  disk : g.H.Host.disk_faults l.host ≡ g.H.Host.disk_faults l.initial.host;
  world : (chief : Chief) → GoesBetween (g.P.Power.stopped l.initial.power) (g.P.Power.stopped l.power) (PreparesOnly l.epoch) (record { cores = l.initial.cores; chief = chief; sent = g.N.Net.sent l.initial.net }) (record { cores = l.cores; chief = chief; sent = g.N.Net.sent l.net });
  stops : CountsStops l.stops (g.P.Power.stops_seen l.initial.power) (g.P.Power.early_stops l.initial.power) (g.P.Power.stops_seen l.power) (g.P.Power.early_stops l.power);
  fresh : AreFresh (g.N.Net.sent l.initial.net) (g.N.Net.fresh l.initial.net) (g.N.Net.sent l.net) (g.N.Net.fresh l.net);
  counts : Counts (g.N.Net.given l.initial.net) (g.N.Net.faults l.initial.net) (g.N.Net.last_seed l.initial.net) (g.N.Net.given l.net) (g.N.Net.faults l.net) (g.N.Net.last_seed l.net);
}
