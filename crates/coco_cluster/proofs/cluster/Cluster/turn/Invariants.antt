use Rattle.std.proofs.Common.{◌≡◌, ◌+◌, ◌*◌, ◌<◌, ◌≤◌, [], None}
use Rattle.coco_append.specs.Gaining.{RestsOn}
use Rattle.coco_letters.specs.Around.{around, spare}
use Rattle.coco_letters.specs.GivingUp.{AreGivenUp}
use Rattle.coco_store.specs.Contents.{Contents}
use Rattle.coco_types.specs.Limits.{epochs_end}
use Rattle.coco_cluster.specs.Entries.{StepsOn}
use Rattle.coco_cluster.specs.Standing.{AllStand, IsSound, StandsAt}
use Rattle.coco_cluster.specs.Stepping.{MayHaveBegun, StepsTo}
use Rattle.coco_cluster.specs.Turning.{HasRoom}
use Rattle.coco_cluster.proofs.TurnLemmas.{GoesOn}
use Rattle.coco_members.specs.AtRest.{ShardsHaveMap, scene_of}
use Rattle.coco_ast.specs.Keyed.{Rows}
use Rattle.coco_cluster.proofs.cluster.Cluster.turn.Given as goal

-- so far all attempts were given up, and what belongs to the store is as it was
abbrev pub invariant-loop-attempt : goal.invariant-loop-attempt
invariant-loop-attempt g l = record {
  sound : IsSound l.self (g.N.Net.sent l.net);
  stand : AllStand l.self (g.H.Host.reads l.host) (g.H.Host.may_leave l.host);
  same : l.requests.items ≡ l.fn.requests.items;
  given : AreGivenUp l._attempt
      (around g.N.Net g.P.Power l.fn.net l.fn.power)
      (around g.N.Net g.P.Power l.net l.power);
  begun : 0 < l._attempt → l.fn.self.next_epoch < epochs_end;
  low : l.fn.self.next_epoch ≤ l.self.next_epoch;
  high : l.self.next_epoch ≤ l.fn.self.next_epoch + l._attempt;
  few : 16 * l.self.next_epoch ≤ 16 * l.fn.self.next_epoch + spare
      (around g.N.Net g.P.Power l.fn.net l.fn.power)
      (around g.N.Net g.P.Power l.net l.power);
  kept : l.self.kept ≡ record l.fn.self.kept { room = l.self.kept.room };
  procs : l.self.procs ≡ l.fn.self.procs;
  layout : l.self.members.tables.layout ≡ l.fn.self.members.tables.layout;
  seen : g.P.Power.stops_seen l.fn.power ≤ g.P.Power.stops_seen l.power;
  map : g.P.Power.stops_seen l.power ≡ g.P.Power.stops_seen l.fn.power → (m : Rows) → ShardsHaveMap m l.fn.self.members.tables → ShardsHaveMap m l.self.members.tables;
  steps : StepsTo (g.P.Power.stopped l.fn.power) (g.P.Power.stopped l.power) l.fn.self.next_epoch l.self.next_epoch [] (scene_of l.fn.self.members (g.N.Net.sent l.fn.net)) (scene_of l.self.members (g.N.Net.sent l.net));
  asks : MayHaveBegun l.fn.self.next_epoch l.self.next_epoch
      (around g.N.Net g.P.Power l.fn.net l.fn.power)
      (around g.N.Net g.P.Power l.net l.power);
  begins : g.P.Power.begun l.power ≤ g.P.Power.begun l.fn.power + l._attempt;
  untraced : l.self.trace ≡ None;
  unused : epochs_end ≤ l.fn.self.next_epoch → l.host ≡ l.fn.host;
  told : (c : Contents) → RestsOn c (g.H.Host.reads l.fn.host) (g.H.Host.may_leave l.fn.host) → StandsAt c l.fn.self → HasRoom c l.fn.requests.items
      → GoesOn g.H.Host c l.self l.fn.host l.host;
  entries : (c d : Contents) → RestsOn c (g.H.Host.reads l.fn.host) (g.H.Host.may_leave l.fn.host) → StandsAt c l.fn.self → HasRoom c l.fn.requests.items → RestsOn d (g.H.Host.reads l.host) (g.H.Host.may_leave l.host)
      → StepsOn c d (g.P.Power.stopped l.fn.power) (g.P.Power.stopped l.power) l.fn.self.next_epoch l.self.next_epoch [] (scene_of l.fn.self.members (g.N.Net.sent l.fn.net)) (scene_of l.self.members (g.N.Net.sent l.net));
  said : g.H.Host.said l.host ≡ g.H.Host.said l.fn.host;
  disk : g.H.Host.disk_faults l.host ≡ g.H.Host.disk_faults l.fn.host;
  stream : g.H.Host.say_faults l.host ≡ g.H.Host.say_faults l.fn.host;
}
