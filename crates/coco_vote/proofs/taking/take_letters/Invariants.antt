use Rattle.std.proofs.Common.{◌≡◌, ◌≢◌, ◌⊎◌, ◌<◌, ℕ, Bool, List, false, length, true}
use Rattle.std.specs.List.{Contains}
use Rattle.coco_msg.specs.declared.message.Message.TheVariants.{Prepare}
use Rattle.coco_net.specs.declared.letter.Letter.{Letter}
use Rattle.coco_chief.specs.Chief.{Chief}
use Rattle.coco_letters.specs.Telling.{Adds, IsOfVote}
use Rattle.coco_letters.specs.Turns.{AreFresh, AreSent, Counts, IsFrom}
use Rattle.coco_letters.specs.Worlds.{GoesBetween}
use Rattle.coco_store.specs.Contents.{Contents}
use Rattle.coco_append.specs.Gaining.{IsNodeLog, Stands}
use Rattle.coco_vote.specs.declared.step.Stops.TheVariants.{Never}
use Rattle.coco_vote.specs.Asking.{IsLater}
use Rattle.coco_vote.specs.Nearing.{ahead_of, Nears}
use Rattle.coco_vote.specs.Preparing.{durable_at, have_durable, Ballot, KeepsVoted, MayForce, RestsVoted}
use Rattle.coco_vote.specs.Taking.{vote_of, AreTold, AreVoting, CountsStops, IsMarked, KeepsCores, UnlessLost, StaysWhole}
use Rattle.coco_vote.specs.Voting.{PreparesOnly}
use Rattle.coco_vote.specs.Keeping.{WritesLog}
use Rattle.coco_vote.proofs.taking.take_letters.Given as goal

-- what came of the letters so far
abbrev pub invariant-loop-net : goal.invariant-loop-net
invariant-loop-net g l = record {
  voting : UnlessLost l.stops (AreVoting l.epoch l.cores);
  cores : KeepsCores l.epoch l.initial.cores l.cores;
  told : AreTold l.epoch l.initial.cores (g.N.Net.sent l.initial.net) (g.P.Power.asked l.initial.power) → AreTold l.epoch l.cores (g.N.Net.sent l.net) (g.P.Power.asked l.power);
  marked : IsMarked l.node l.voter (g.P.Power.asked l.power);
  held : l.voter.held ≡ l.initial.voter.held;
  whole : StaysWhole (g.P.Power.stops_seen l.initial.power) (g.P.Power.stops_seen l.power) l.initial.voter l.voter;
  nears : Nears l.stops (ahead_of l.epoch l.initial.cores l.node l.initial.voter) (ahead_of l.epoch l.cores l.node l.voter);
  elsewhere : (m : ℕ) → m ≢ l.node → durable_at l.cores m ≡ durable_at l.initial.cores m;
  votes : l.stops ≡ Never → (letter : Letter) → Contains (g.N.Net.waiting l.initial.net l.node) letter → IsFrom 8 letter (Prepare l.epoch) → Contains (g.N.Net.waiting l.net l.node) letter ⊎ Contains (g.N.Net.fresh l.net) (vote_of l.node l.epoch true);
  says : Adds (IsOfVote l.epoch) (g.N.Net.sent l.initial.net) (g.N.Net.sent l.net);
  sent : AreSent (g.N.Net.sent l.net) (g.N.Net.waiting l.net);
  files : (c : Contents) (hold : ℕ → List Bool) → let b : Ballot = record { epoch = l.epoch; pieces = l.pieces; held = hold } in
      hold l.node ≡ l.initial.voter.held.items → MayForce c b → l.node < c.setting.entry.layout.nodes → IsNodeLog c l.node l.initial.voter.log → RestsVoted c b (have_durable l.epoch l.initial.cores) (g.H.Host.reads l.initial.host) (g.H.Host.may_leave l.initial.host)
      → KeepsVoted g.H.Host c b l.initial.host l.host × RestsVoted c b (have_durable l.epoch l.cores) (g.H.Host.reads l.host) (g.H.Host.may_leave l.host);
  stands : Stands l.voter.log (g.H.Host.reads l.host) (g.H.Host.may_leave l.host);
  unspent : l.voter.log.spent ≡ false;
  rest : WritesLog g.H.Host l.initial.voter.log l.voter.log l.initial.host l.host;
  disk : g.H.Host.disk_faults l.host ≡ g.H.Host.disk_faults l.initial.host;
  world : (chief : Chief) → GoesBetween (g.P.Power.stopped l.initial.power) (g.P.Power.stopped l.power) (PreparesOnly l.epoch) (record { cores = l.initial.cores; chief = chief; sent = g.N.Net.sent l.initial.net }) (record { cores = l.cores; chief = chief; sent = g.N.Net.sent l.net });
  later : IsLater g.P.Power l.initial.power l.power;
  stops : CountsStops l.stops (g.P.Power.stops_seen l.initial.power) (g.P.Power.early_stops l.initial.power) (g.P.Power.stops_seen l.power) (g.P.Power.early_stops l.power);
  fresh : AreFresh (g.N.Net.sent l.initial.net) (g.N.Net.fresh l.initial.net) (g.N.Net.sent l.net) (g.N.Net.fresh l.net);
  waiting : (p : ℕ) → p ≢ l.node → g.N.Net.waiting l.net p ≡ g.N.Net.waiting l.initial.net p;
  counts : Counts (g.N.Net.given l.initial.net) (g.N.Net.faults l.initial.net) (g.N.Net.last_seed l.initial.net) (g.N.Net.given l.net) (g.N.Net.faults l.net) (g.N.Net.last_seed l.net);
}

abbrev pub decreases-loop-net : goal.decreases-loop-net
decreases-loop-net g l = length (g.N.Net.waiting l.net l.node)
