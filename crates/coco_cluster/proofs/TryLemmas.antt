-- An epoch that is tried on a cluster: what it may begin with, and what it leaves on every host.
use Rattle.std.proofs.Common.{◌≡◌, ℕ, ◌*◌, ◌<◌, ◌≤◌, Bool, false, List, [], length, map, nat_eq, refl, sym, ap, ◌∙◌, subst, arith}
use Rattle.std.specs.Global.{Vec}
use Rattle.std.specs.List.{IsDistinct}
use Rattle.coco_ast.specs.Growth.{IsEpochOf}
use Rattle.coco_ast.specs.History.{rows_after}
use Rattle.coco_ast.specs.Keyed.{Rows}
use Rattle.coco_early.specs.Runs.{HasRun}
use Rattle.coco_entry.specs.declared.layout.Layout.{Layout}
use Rattle.coco_finish.specs.Finishing.{is_behind, AreWhole}
use Rattle.coco_finish.specs.declared.tables.NodeTables.{NodeTables}
use Rattle.coco_lost.specs.Requests.{AreRequestsOf}
use Rattle.coco_members.specs.AtRest.{primaries_of, AreMembers, NoneBehind, ShardsHaveMap}
use Rattle.coco_members.specs.declared.members.Members.{Members}
use Rattle.coco_net.specs.declared.letter.Posted.{Posted}
use Rattle.coco_parallel.specs.Ending.{Start}
use Rattle.coco_parallel.specs.Epochs.{beginning_with}
use Rattle.coco_parallel.specs.Traces.{IsTraceOf, Traced}
use Rattle.coco_shard.specs.RowState.{ShardState}
use Rattle.coco_copy.specs.CopyState.{CopyState}
use Rattle.coco_ship.specs.Placing.{IsRing}
use Rattle.coco_standing.proofs.AtRest.{at_rest_keep}
use Rattle.coco_standing.proofs.Pending.{pending_keeps, pending_stands}
use Rattle.coco_standing.specs.Laws.{PendLastWrites}
use Rattle.coco_standing.specs.Standing.{AreCounted, NodeStands, TablesKeep, TablesStand, all_behind, none_behind}
use Rattle.coco_trial.specs.Running.{HaveShards, MayTry, ring_of}
use Rattle.coco_types.specs.Limits.{most_partitions}
use Rattle.coco_types.specs.declared.call.Done.{Done}
use Rattle.coco_types.specs.declared.call.Piece.{Piece}
use Rattle.coco_types.specs.declared.call.Request.{Request}
use Rattle.coco_worker.specs.declared.slot.EpochConfig.{EpochConfig}
use Rattle.coco_cluster.specs.Standing.{IsSound}
use Rattle.coco_cluster.specs.Trying.{AreQuiet, KeepShards}
use Rattle.coco_cluster.specs.Turning.{MayTurn, beginning_at}
use Rattle.coco_cluster.specs.declared.cluster.Cluster.{Cluster}

-- where no node is behind
pub none_stand : (layout : Layout) (m : Rows) (marks : List Bool) (shards : List ShardState) (copies : List CopyState) → ((n : ℕ) → is_behind marks n ≡ false) → TablesStand layout m (is_behind marks) shards copies → TablesStand layout m none_behind shards copies
none_stand layout m marks shards copies none stand = record {
  counted = stand.counted;
  nodes = λ n less. subst (λ b. NodeStands layout m n b shards copies) (none n) (stand.nodes n less);
}

pub have_shards : (m : Rows) (t : NodeTables) → NoneBehind t → ShardsHaveMap m t → HaveShards m t
have_shards m t none has = none_stand (primaries_of t.layout) m t.behind.items t.shards.items [] none has

-- shards that have a map keep it
pub keep_shards : (m : Rows) (t : NodeTables) → HaveShards m t → KeepShards m t
keep_shards m t has = at_rest_keep (primaries_of t.layout) m t.shards.items [] has

-- the epoch may be tried
pub may_try : (k : Cluster) (sent : List Posted) (requests : List Request) (workers attempts : ℕ) (config : EpochConfig) → IsSound k sent → NoneBehind k.members.tables → MayTurn k requests → 0 < workers → 0 < attempts
    → config ≡ record { epoch = k.next_epoch; workers = workers; started = workers; attempts = attempts; nodes = k.members.tables.layout.nodes; copies = k.members.tables.layout.copies }
    → MayTry k.procs requests config k.members.tables
may_try k sent requests workers attempts config sound none may some_workers some_attempts is = subst (λ (told : EpochConfig). MayTry k.procs requests told k.members.tables) (sym is) (record {
  stands = (sound.rests.rest.map.0, have_shards sound.rests.rest.map.0 k.members.tables none sound.rests.rest.map.1);
  whole = sound.rests.rest.are.whole;
  partitions = sound.rests.partitions;
  fit = may.fit;
  few = may.few;
  distinct = may.distinct;
  workers = some_workers;
  attempts = some_attempts;
  nodes = refl;
  copies = refl;
})

-- the ring of the layout is one
pub ring_ok : (k : Members) → AreMembers k → k.tables.layout.partitions ≤ most_partitions → IsRing (ring_of k.tables.layout)
ring_ok k are few =
    let ring = are.whole.ring in
    let some_node = are.some in
    let few_nodes = are.few in
    let nodes = are.layout in
    record {
      some_node = omega (arith, some_node, nodes);
      nodes = omega (arith, few_nodes, nodes);
      some_partition = omega (arith, ring.some);
      partitions = few;
      copies = omega (arith, ring.around);
    }

-- ---- behind the run

-- nothing pends in no copies
no_copies : (layout : Layout) (m : Rows) (parts : List Piece) → PendLastWrites (primaries_of layout) m parts []
no_copies layout m parts = record {
  stable = λ p j below from to. absurd (omega (arith, from, to));
  last = λ p j below from to k home. absurd (omega (arith, from, to));
  elsewhere = λ p j below from to k away. absurd (omega (arith, from, to));
}

module _ (s : Start) (layout : Layout) (shards : List ShardState) (dones : List Done) (pieces : List Piece) (trace : Traced) (run : HasRun s shards dones pieces trace) (counted : AreCounted (primaries_of layout) shards []) where
  -- to promote the shards gives the map that the Dones leave, and to revert them that of before
  pub gives_run : TablesStand (primaries_of layout) (rows_after s.procs s.opening dones) all_behind shards []
  gives_run = pending_stands (primaries_of layout) s.procs s.requests s.config.epoch s.opening shards [] dones pieces counted run.serial (no_copies layout s.opening pieces)

  pub keeps_run : TablesKeep (primaries_of layout) s.opening shards []
  keeps_run = pending_keeps (primaries_of layout) s.procs s.requests s.config.epoch s.opening shards [] dones pieces counted run.serial (no_copies layout s.opening pieces)

pub primaries_counted : (layout : Layout) (shards shards_new : List ShardState) (copies : List CopyState) → AreCounted layout shards copies → length shards_new ≡ length shards → AreCounted (primaries_of layout) shards_new []
primaries_counted layout shards shards_new copies counted many = record {
  ring = record { some = counted.ring.some; around = (let a = counted.ring.around in omega (arith, a)) };
  shard_count = many ∙ counted.shard_count;
  copy_count = none layout.partitions;
}
  where
    none : (n : ℕ) → 0 ≡ n * 0
    none n = omega arith

-- nodes and coordinator are as they were
pub quiet_run : (next : ℕ) (sent : List Posted) (old new : Members) → new ≡ record old { tables = new.tables } → new.tables.layout ≡ old.tables.layout → new.tables.behind ≡ old.tables.behind → AreWhole new.tables → AreQuiet next sent old → AreQuiet next sent new
quiet_run next sent old new same layout behind whole quiet = subst (AreQuiet next sent) (sym same) (record {
  are = record {
    some = quiet.are.some;
    few = quiet.are.few;
    layout = ap (λ (l : Layout). l.nodes) layout ∙ quiet.are.layout;
    chief = quiet.are.chief;
    voters = quiet.are.voters;
    behind = ap (λ (b : Vec Bool). length b.items) behind ∙ quiet.are.behind;
    whole = whole;
    apart = quiet.are.apart;
    chief_apart = quiet.are.chief_apart;
  };
  rest = quiet.rest;
  letters = quiet.letters;
})

-- the requests are there again
pub requests_again : (epoch : ℕ) (requests : List Request) (dones : List Done) (ids : List ℕ) → IsDistinct nat_eq (map (λ (r : Request). r.id) requests) → ids ≡ map (λ (r : Request). r.id) requests → IsEpochOf requests (record { number = epoch; dones = dones })
    → AreRequestsOf ids dones requests
requests_again epoch requests dones ids distinct same each = record { ids_are = same; distinct = subst (IsDistinct nat_eq) (sym same) distinct; each = each.each }

-- the trace is that of the beginning on the cluster
pub traced_at : (k : Cluster) (m : Rows) (requests : List Request) (workers attempts epoch : ℕ) (config : EpochConfig) (shards : List ShardState) (dones : List Done) (trace : Traced) → length shards ≡ k.members.tables.layout.partitions
    → config.workers ≡ workers → config.attempts ≡ attempts → IsTraceOf (beginning_with k.procs m requests shards config) epoch dones trace → IsTraceOf (beginning_at k m requests workers attempts) epoch dones trace
traced_at k m requests workers attempts epoch config shards dones trace count workers_are attempts_are traced = subst (λ b. IsTraceOf b epoch dones trace)
    (ap (λ n. record { procs = k.procs; opening = m; requests = requests; partitions = n; workers = config.workers; attempts = config.attempts }) count
    ∙ ap (λ n. record { procs = k.procs; opening = m; requests = requests; partitions = k.members.tables.layout.partitions; workers = n; attempts = config.attempts }) workers_are
    ∙ ap (λ n. record { procs = k.procs; opening = m; requests = requests; partitions = k.members.tables.layout.partitions; workers = workers; attempts = n }) attempts_are) traced
