use Rattle.std.proofs.Common.{◌≡◌, ◌+◌, ◌-◌, ◌<◌, ◌≤◌, ℕ, Bool, false, List, ◌++◌, length}
use Rattle.std.specs.List.{Contains}
use Rattle.coco_chief.specs.Shown.{chief_of}
use Rattle.coco_chief.specs.Table.{has_voted}
use Rattle.coco_net.specs.declared.letter.Posted.{Posted}
use Rattle.coco_letters.specs.Telling.{Adds, IsOfVote}
use Rattle.coco_letters.specs.Worlds.{GoesBetween}
use Rattle.coco_store.specs.Contents.{Contents}
use Rattle.coco_vote.specs.Counting.{prepare_of, HasCounted, IsAye}
use Rattle.coco_vote.specs.Nearing.{all_ahead}
use Rattle.coco_vote.specs.Preparing.{have_durable, Ballot, KeepsVoted, MayForce, RestsVoted}
use Rattle.coco_vote.specs.Taking.{AreHeld, AreMarked, AreReady, AreTold, AreVoting, HaveLogs, KeepsCores, StayWhole}
use Rattle.coco_vote.specs.Voting.{PreparesOnly}
use Rattle.coco_vote.specs.Keeping.{KeepsRest}
use Rattle.coco_vote.proofs.phase.exchanges.Given as goal

-- what came of the exchanges so far, and who is asked once more
abbrev pub invariant-asking : goal.invariant-asking
invariant-asking g l = record {
  voting : AreVoting l.epoch l.cores;
  cores : KeepsCores l.epoch l.initial.cores l.cores;
  told : AreTold l.epoch l.cores (g.N.Net.sent l.net) (g.P.Power.asked l.power);
  marked : AreMarked l.voters (g.P.Power.asked l.power);
  counting : (given : List Posted) → g.N.Net.given l.net ≡ g.N.Net.given l.initial.net ++ given → HasCounted l.epoch (IsAye l.epoch given) (chief_of l.chief);
  fresh : (n : ℕ) → n < length l.initial.cores → has_voted n (chief_of l.chief) ≡ false → Contains (g.N.Net.fresh l.net) (prepare_of n l.epoch);
  asked : (n : ℕ) → n < length l.initial.cores → Contains (g.N.Net.sent l.net) (prepare_of n l.epoch);
  were_sent : (given : List Posted) (p : Posted) → g.N.Net.given l.net ≡ g.N.Net.given l.initial.net ++ given → Contains given p → Contains (g.N.Net.sent l.net) p;
  lost : g.N.Net.faults l.initial.net + l.counted ≤ g.N.Net.faults l.net;
  counted : l.counted < 16;
  nodes : (chief_of l.chief).nodes ≡ (chief_of l.initial.chief).nodes;
  last : (chief_of l.chief).last ≡ (chief_of l.initial.chief).last;
  committed : (chief_of l.chief).committed ≡ (chief_of l.initial.chief).committed;
  early : g.P.Power.early_stops l.power ≡ g.P.Power.early_stops l.initial.power;
  says : Adds (IsOfVote l.epoch) (g.N.Net.sent l.initial.net) (g.N.Net.sent l.net);
  files : (c : Contents) (hold : ℕ → List Bool) → let b : Ballot = record { epoch = l.epoch; pieces = l.pieces; held = hold } in
      AreHeld hold l.initial.voters → MayForce c b → c.setting.entry.layout.nodes ≡ length l.initial.cores → HaveLogs c l.initial.voters → RestsVoted c b (have_durable l.epoch l.initial.cores) (g.H.Host.reads l.initial.host) (g.H.Host.may_leave l.initial.host)
      → KeepsVoted g.H.Host c b l.initial.host l.host × RestsVoted c b (have_durable l.epoch l.cores) (g.H.Host.reads l.host) (g.H.Host.may_leave l.host);
  ready : AreReady l.voters (g.H.Host.reads l.host) (g.H.Host.may_leave l.host);
  rest : KeepsRest g.H.Host g.N.Net g.P.Power l.initial.voters l.voters l.initial.host l.host l.initial.net l.net l.initial.power l.power;
  whole : StayWhole (g.P.Power.stops_seen l.initial.power) (g.P.Power.stops_seen l.power) l.initial.voters l.voters;
  disk : g.H.Host.disk_faults l.host ≡ g.H.Host.disk_faults l.initial.host;
  world : GoesBetween (g.P.Power.stopped l.initial.power) (g.P.Power.stopped l.power) (PreparesOnly l.epoch) (record { cores = l.initial.cores; chief = chief_of l.initial.chief; sent = g.N.Net.sent l.initial.net }) (record { cores = l.cores; chief = chief_of l.chief; sent = g.N.Net.sent l.net });
}

-- exchanges that are left to count, and what is ahead of the nodes
abbrev pub decreases-asking : goal.decreases-asking
decreases-asking g l = (16 - l.counted) + all_ahead l.epoch l.cores l.voters (length l.initial.cores)
