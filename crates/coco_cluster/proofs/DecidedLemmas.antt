-- What stays while an epoch is decided on or tried, and what was decided, from call to call.
use Rattle.std.specs.Global.{Vec}
use Rattle.std.proofs.Common.{◌≡◌, ℕ, ◌+◌, ◌<◌, ◌≤◌, Bool, true, List, [], ◌++◌, length, Result, Ok, Err, refl, sym, ap, ◌∙◌, subst, arith}
use Rattle.std.specs.Prelude.{IfOk}
use Rattle.coco_append.specs.Gaining.{Stands}
use Rattle.coco_ast.specs.Keyed.{Rows}
use Rattle.coco_finish.specs.declared.tables.NodeTables.{NodeTables}
use Rattle.coco_host.specs.declared.host.Host.{Ghosts as HostGhosts}
use Rattle.coco_letters.specs.Around.{Around, IsLater, around}
use Rattle.coco_letters.specs.Worlds.{GoesBetween, SameEntries}
use Rattle.coco_letters.specs.declared.voter.Voter.{Voter}
use Rattle.coco_log.specs.LogState.{LogState}
use Rattle.coco_members.specs.AtRest.{AreMembers, ShardsHaveMap, scene_of}
use Rattle.coco_members.specs.declared.members.Members.{Members}
use Rattle.coco_net.specs.declared.letter.Posted.{Posted}
use Rattle.coco_net.specs.declared.net.Net.{Ghosts as NetGhosts}
use Rattle.coco_power.specs.declared.power.Power.{Ghosts as PowerGhosts}
use Rattle.coco_trial.specs.Running.{KeepAll}
use Rattle.coco_types.specs.declared.call.Piece.{Piece}
use Rattle.coco_types.specs.declared.call.Request.{Request}
use Rattle.coco_vote.proofs.PowerLemmas.{later_same as asked_same, later_then as asked_then}
use Rattle.coco_vote.specs.Asking.{IsLater as StaysAsked}
use Rattle.coco_vote.specs.Counting.{GivesOn}
use Rattle.coco_vote.specs.Taking.{IsElsewhere}
use Rattle.coco_cluster.specs.Deciding.{HasDecided, HasTried, StaysDeciding, StaysTrying}
use Rattle.coco_cluster.specs.Stepping.{VotedForBy, VotedForIf}
use Rattle.coco_cluster.specs.Trying.{ComesOf, DecidesOn, GiveIf, LoseIfTold, StayInPlace, StaysInPlace}
use Rattle.coco_cluster.specs.declared.cluster.Cluster.{Cluster}
use Rattle.coco_cluster.specs.declared.trying.Tried.{Tried}
use Rattle.coco_cluster.proofs.AroundLemmas.{cause_from, later_still, later_then, later_used, tried_from}
use Rattle.coco_cluster.proofs.AskLemmas.{voted_before, voted_by_before}
use Rattle.coco_cluster.proofs.EntryLemmas.{decides_on, tries_on}
use Rattle.coco_cluster.proofs.StepLemmas.{steps_after, steps_same}
use Rattle.coco_cluster.proofs.StopLemmas.{lose_then}

-- Each node was asked for a stop at a point, and none has stopped: members are what they were.
pub record NoneStops {P : Type 0} (powers : PowerGhosts P) (point : ℕ) (sent : List Posted) (k mid : Members) (power power_mid : P) : Type 0 where
  pub are : AreMembers k
  pub same : mid ≡ k
  pub early : powers.early_stops power_mid ≡ powers.early_stops power
  pub asked : (n : ℕ) → n < k.tables.layout.nodes → powers.asked power_mid n point ≡ true
  pub world : GoesBetween (powers.stopped power) (powers.stopped power_mid) SameEntries (scene_of k sent) (scene_of mid sent)
  pub whole : LoseIfTold (powers.stops_seen power) (powers.stops_seen power_mid) k.voters.items mid.voters.items

few_nodes : (k : Members) → AreMembers k → k.tables.layout.nodes ≤ 8
few_nodes k are = (let few = are.few in omega (arith, few, are.layout))

module _ {H N P : Type 0} (frame : HostGhosts H) (nets : NetGhosts N) (powers : PowerGhosts P) where
  -- ---- what stays

  -- while nodes may stop
  pub stays_stopped : (k new : Members) (host : H) (net : N) (power power_new : P) → new ≡ record k { cores = new.cores; voters = new.voters } → StaysAsked powers power power_new
      → StaysDeciding frame nets powers k new host host net net power power_new
  stays_stopped k new host net power power_new same asked = record {
    shards = ap (λ (x : Members). x.tables.shards) same;
    keep = λ m was. subst (λ (x : Members). KeepAll m x.tables) (sym same) was;
    others = λ other away stands. stands;
    said = refl;
    stream = refl;
    later = later_still (around nets powers net power) (around nets powers net power_new) refl refl refl refl asked.early_rises;
    power = asked;
  }

  -- while pieces are shipped
  pub stays_shipped : (k new : Members) (host : H) (net net_new : N) (power : P) → new.tables.shards ≡ k.tables.shards → ((m : Rows) → KeepAll m k.tables → KeepAll m new.tables)
      → (more : List Posted) × (nets.sent net_new ≡ nets.sent net ++ more) → GivesOn (nets.given net) (nets.faults net) (nets.last_seed net) (nets.given net_new) (nets.faults net_new) (nets.last_seed net_new)
      → StaysDeciding frame nets powers k new host host net net_new power power
  stays_shipped k new host net net_new power shards keep sent gives = record {
    shards = shards;
    keep = keep;
    others = λ other away stands. stands;
    said = refl;
    stream = refl;
    later = later_used (around nets powers net power) (around nets powers net_new power) sent gives (omega arith);
    power = asked_same powers power;
  }

  -- while nodes vote
  pub stays_voting : (k new : Members) (host host_new : H) (net net_new : N) (power power_new : P) → new.tables ≡ k.tables
      → ((other : LogState) → IsElsewhere other k.voters.items → Stands other (frame.reads host) (frame.may_leave host) → Stands other (frame.reads host_new) (frame.may_leave host_new))
      → frame.said host_new ≡ frame.said host → frame.say_faults host_new ≡ frame.say_faults host
      → (more : List Posted) × (nets.sent net_new ≡ nets.sent net ++ more) → GivesOn (nets.given net) (nets.faults net) (nets.last_seed net) (nets.given net_new) (nets.faults net_new) (nets.last_seed net_new)
      → StaysAsked powers power power_new → StaysDeciding frame nets powers k new host host_new net net_new power power_new
  stays_voting k new host host_new net net_new power power_new tables others said stream sent gives asked = record {
    shards = ap (λ (t : NodeTables). t.shards) tables;
    keep = λ m was. subst (λ (t : NodeTables). KeepAll m t) (sym tables) was;
    others = others;
    said = said;
    stream = stream;
    later = later_used (around nets powers net power) (around nets powers net_new power_new) sent gives asked.early_rises;
    power = asked;
  }

  -- one behind the other
  pub stays_then : (k mid new : Members) (host host_mid host_new : H) (net net_mid net_new : N) (power power_mid power_new : P) → mid.voters ≡ k.voters
      → StaysDeciding frame nets powers k mid host host_mid net net_mid power power_mid → StaysDeciding frame nets powers mid new host_mid host_new net_mid net_new power_mid power_new
      → StaysDeciding frame nets powers k new host host_new net net_new power power_new
  stays_then k mid new host host_mid host_new net net_mid net_new power power_mid power_new voters one two = record {
    shards = two.shards ∙ one.shards;
    keep = λ m was. two.keep m (one.keep m was);
    others = λ other away stands. two.others other (subst (λ (v : Vec Voter). IsElsewhere other v.items) (sym voters) away) (one.others other away stands);
    said = two.said ∙ one.said;
    stream = two.stream ∙ one.stream;
    later = later_then (around nets powers net power) (around nets powers net_mid power_mid) (around nets powers net_new power_new) one.later two.later;
    power = asked_then powers power power_mid power_new one.power two.power;
  }

  -- ---- from a point on at which no node stops

  module _ (point : ℕ) (host host_new : H) (net net_new : N) (power power_mid power_new : P) (six : point ≤ 6) where
    abbrev first : Around
    first = around nets powers net power

    abbrev mid_way : Around
    mid_way = around nets powers net power_mid

    abbrev last : Around
    last = around nets powers net_new power_new

    still : powers.early_stops power_mid ≡ powers.early_stops power → IsLater first mid_way
    still early = later_still first mid_way refl refl refl refl (omega (arith, early))

    pub decided_before : {E : Type 0} (r : Result Bool E) (epoch : ℕ) (pieces : List Piece) (k mid new : Members) → NoneStops powers point (nets.sent net) k mid power power_mid
        → StaysDeciding frame nets powers mid new host host_new net net_new power_mid power_new
        → IfOk r (λ all. HasDecided frame nets powers all (point + 1) epoch pieces mid new host host_new net net_new power_mid power_new)
        → IfOk r (λ all. HasDecided frame nets powers all point epoch pieces k new host host_new net net_new power power_new)
    decided_before (Ok all) epoch pieces k mid new none stays had =
        let i = powers.stopped power in
        let j = powers.stopped power_mid in
        let l = powers.stopped power_new in
        let sent = nets.sent net in
        let nodes : length mid.cores.items ≡ length k.cores.items = ap (λ (x : Members). length x.cores.items) none.same in
        record {
          decides = subst (λ (x : Members). DecidesOn all epoch (nets.sent net_new) x new) none.same had.decides;
          cause = cause_from first mid_way last (still none.early) all had.cause;
          voted = voted_before all k.tables.layout epoch point first mid_way last (few_nodes k none.are) six (still none.early) stays.later none.early stays.power.asked_stays none.asked
              (subst (λ (x : Members). VotedForIf all x.tables.layout epoch (point + 1) mid_way last) none.same had.voted);
          steps = steps_after i j l epoch epoch (epoch + 1) [] (scene_of k sent) (scene_of mid sent) (scene_of new (nets.sent net_new))
              (steps_same i j epoch (scene_of k sent) (scene_of mid sent) nodes none.world) had.steps;
          entries = decides_on frame.reads frame.may_leave host host_new i j l sent (nets.sent net_new) epoch pieces k mid new none.same nodes none.world had.entries;
          places = subst (λ (x : Members). StayInPlace x new) none.same had.places;
          whole = lose_then (powers.stops_seen power) (powers.stops_seen power_mid) (powers.stops_seen power_new) k.voters.items mid.voters.items new.voters.items none.whole had.whole;
          give = subst (λ (x : Members). GiveIf all epoch pieces x.tables new.tables) none.same had.give;
          ready = had.ready;
        }
    decided_before (Err e) epoch pieces k mid new none stays had = tt

    pub tried_before : {E : Type 0} (r : Result Tried E) (requests : List Request) (workers attempts : ℕ) (k new : Cluster) (mid : Members) → NoneStops powers point (nets.sent net) k.members mid power power_mid
        → StaysTrying frame nets powers (record k { members = mid }) new host host_new net net_new power_mid power_new → StaysAsked powers power_mid power_new
        → IfOk r (λ tried. HasTried frame nets powers tried (point + 1) requests workers attempts (record k { members = mid }) new host host_new net net_new power_mid power_new)
        → IfOk r (λ tried. HasTried frame nets powers tried point requests workers attempts k new host host_new net net_new power power_new)
    tried_before (Ok tried) requests workers attempts k new mid none stays asked had =
        let i = powers.stopped power in
        let j = powers.stopped power_mid in
        let l = powers.stopped power_new in
        let e = k.next_epoch in
        let sent = nets.sent net in
        let a = scene_of k.members sent in
        let b = scene_of mid sent in
        let nodes : length mid.cores.items ≡ length k.members.cores.items = ap (λ (x : Members). length x.cores.items) none.same in
        record {
          comes = subst (λ (x : Members). (m : Rows) → ShardsHaveMap m x.tables → ComesOf tried requests workers attempts m (nets.sent net_new) (record k { members = x }) new) none.same had.comes;
          cause = tried_from first mid_way last (still none.early) tried had.cause;
          voted = voted_by_before tried k.members.tables.layout e point first mid_way last (few_nodes k.members none.are) six (still none.early) stays.later none.early asked.asked_stays none.asked
              (subst (λ (x : Members). VotedForBy tried x.tables.layout e (point + 1) mid_way last) none.same had.voted);
          steps = steps_after i j l e e (e + 1) [] a b (scene_of new.members (nets.sent net_new)) (steps_same i j e a b nodes none.world) had.steps;
          entries = tries_on frame.reads frame.may_leave host host_new i j l sent (nets.sent net_new) requests k mid new none.same nodes none.world had.entries;
          stays = subst (λ (x : Members). StaysInPlace (record k { members = x }) new) none.same had.stays;
          whole = lose_then (powers.stops_seen power) (powers.stops_seen power_mid) (powers.stops_seen power_new) k.members.voters.items mid.voters.items new.members.voters.items none.whole had.whole;
          ready = had.ready;
        }
    tried_before (Err e) requests workers attempts k new mid none stays asked had = tt
