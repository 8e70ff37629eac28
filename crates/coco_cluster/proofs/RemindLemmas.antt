-- A cluster whose nodes were reminded of what was committed last.
use Rattle.std.specs.Global.{Vec}
use Rattle.std.proofs.Common.{◌≡◌, ℕ, ◌<◌, ◌≤◌, Bool, true, false, List, Option, sym, ap, ◌∙◌, subst}
use Rattle.std.specs.Bool.{MatchBool}
use Rattle.coco_append.specs.Gaining.{IsChiefLog, Stands}
use Rattle.coco_chief.specs.Chief.{Chief}
use Rattle.coco_chief.specs.Shown.{chief_of}
use Rattle.coco_entry.specs.declared.layout.Layout.{Layout}
use Rattle.coco_finish.specs.Exchanges.{HaveAllFinished, IsSilent}
use Rattle.coco_finish.specs.Finishing.{HaveMap}
use Rattle.coco_host.specs.Files.{Files}
use Rattle.coco_letters.specs.Around.{Around, IsLater}
use Rattle.coco_letters.specs.GivingUp.{since, Awaits}
use Rattle.coco_letters.specs.declared.voter.Voter.{Voter}
use Rattle.coco_log.specs.LogState.{LogState}
use Rattle.coco_lost.specs.Reading.{AreInFiles}
use Rattle.coco_members.specs.AtRest.{AreAtRest, AreMembers, NoneLost}
use Rattle.coco_members.specs.Opened.{HoldTheirs}
use Rattle.coco_members.specs.declared.members.Members.{Members}
use Rattle.coco_net.specs.declared.letter.Posted.{Posted}
use Rattle.coco_settle.specs.Reminding.{KeepsLogs}
use Rattle.coco_store.specs.Contents.{Contents, map_in}
use Rattle.coco_types.specs.Limits.{most_partitions}
use Rattle.coco_vote.specs.Taking.{AreReady, HaveLogs, IsElsewhere}
use Rattle.coco_cluster.specs.Standing.{AllStand, IsSound, MayStop, StandsAt}
use Rattle.coco_cluster.specs.Trying.{GivesUp}
use Rattle.coco_cluster.specs.declared.cluster.Cluster.{Cluster}
use Rattle.coco_cluster.proofs.AroundLemmas.{gives_silent}
use Rattle.coco_cluster.specs.Turning.{MayTurn}
use Rattle.coco_types.specs.declared.call.Request.{Request}
use Rattle.coco_cluster.proofs.AttemptLemmas.{can_still}

abbrev pub reminded : Cluster → Members → Cluster
reminded k members = record k { members = members }

module _ (k : Cluster) (now : Members) (keeps : KeepsLogs k.members now) where
  -- the logs stand where they stood
  pub stand_reminded : (reads : Option Files) (may_leave : Files → Type 0) → AllStand k reads may_leave → AllStand (reminded k now) reads may_leave
  stand_reminded reads may_leave stand = record {
    chief = subst (λ (l : LogState). Stands l reads may_leave) (sym keeps.log) stand.chief;
    nodes = subst (λ (v : Vec Voter). AreReady v.items reads may_leave) (sym keeps.voters) stand.nodes;
  }

  module _ (layout : now.tables.layout ≡ k.members.tables.layout) (committed : (chief_of now.chief).committed ≡ (chief_of k.members.chief).committed) where
    stops_reminded : MayStop k.members → MayStop now
    stops_reminded stops = record {
      files = subst (λ (l : Layout). AreInFiles l now.voters.items) (sym layout) (subst (λ (v : Vec Voter). AreInFiles k.members.tables.layout v.items) (sym keeps.voters) stops.files);
      read = can_still k.members now layout (λ e is. stops.read.above e (ap (λ (f : ℕ → Bool). f e) (sym committed) ∙ is)) stops.read;
    }

    pub sound_reminded : (before sent : List Posted) → AreAtRest k.next_epoch sent now → IsSound k before → IsSound (reminded k now) sent
    sound_reminded before sent at_rest sound = record {
      rests = record {
        keeps = sound.rests.keeps;
        first = sound.rests.first;
        end = sound.rests.end;
        base = subst (λ (l : Layout). l.base_epoch < k.next_epoch) (sym layout) sound.rests.base;
        partitions = subst (λ (l : Layout). l.partitions ≤ most_partitions) (sym layout) sound.rests.partitions;
        rest = at_rest;
        unspent = ap (λ (l : LogState). l.spent) keeps.log ∙ sound.rests.unspent;
        stops = stops_reminded sound.rests.stops;
      };
      whole = subst (λ (v : Vec Voter). NoneLost v.items) (sym keeps.voters) sound.whole;
    }

    pub stands_reminded : (c : Contents) → (HaveMap (map_in c) k.members.tables → HaveMap (map_in c) now.tables) → StandsAt c k → StandsAt c (reminded k now)
    stands_reminded c map stands = record {
      belongs = record {
        procs = stands.belongs.procs;
        dones = stands.belongs.dones;
        floor = stands.belongs.floor;
        keep = stands.belongs.keep;
        layout = layout ∙ stands.belongs.layout;
        base = stands.belongs.base;
        chief = subst (IsChiefLog c) (sym keeps.log) stands.belongs.chief;
        logs = subst (λ (v : Vec Voter). HaveLogs c v.items) (sym keeps.voters) stands.belongs.logs;
        held = subst (λ (v : Vec Voter). HoldTheirs c.setting.entry.layout v.items) (sym keeps.voters) stands.belongs.held;
        commits = λ e. ap (λ (f : ℕ → Bool). f e) committed ∙ stands.belongs.commits e;
      };
      map = map stands.map;
      next = stands.next;
    }

-- what a cluster may run it may run once its nodes were reminded
pub may_reminded : (k : Cluster) (now : Members) (requests : List Request) → MayTurn k requests → MayTurn (reminded k now) requests
may_reminded k now requests may = record { fit = may.fit; distinct = may.distinct; unkept = may.unkept; above = may.above; few = may.few }

-- by the answer
pub all_finished : (all : Bool) (chief : Chief) (Silent : Type 0) → all ≡ true → MatchBool all (HaveAllFinished chief) Silent → HaveAllFinished chief
all_finished all chief Silent is so = subst (λ (b : Bool). MatchBool b (HaveAllFinished chief) Silent) is so

pub one_silent : (all : Bool) (last : ℕ) (chief : Chief) (a b : Around) → all ≡ false → MatchBool all (HaveAllFinished chief) (IsSilent last chief a.sent a.given b.sent b.given a.faults b.faults)
    → (all ≡ false → Awaits (since a.sent b.sent) (since a.given b.given)) → IsLater a b → GivesUp a b
one_silent all last chief a b is so awaits later =
    let silent : IsSilent last chief a.sent a.given b.sent b.given a.faults b.faults = subst (λ (q : Bool). MatchBool q (HaveAllFinished chief) (IsSilent last chief a.sent a.given b.sent b.given a.faults b.faults)) is so in
    gives_silent a b later silent.silent.lost (awaits is)

-- the coordinator's log is in no node's file
pub chief_elsewhere : (k : Members) → AreMembers k → IsElsewhere k.log k.voters.items
chief_elsewhere k are n voter there is = are.chief_apart n voter there (sym is)
