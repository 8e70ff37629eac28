-- What a run of new requests makes of the store that a cluster stands at: it may be prepared, and where all nodes have done so it may be committed.
use Rattle.std.proofs.Common.{◌≡◌, ℕ, zero, suc, ◌<◌, ◌≤◌, Bool, List, [], ◌∷◌, length, map, Option, None, Some, refl, sym, ap, ◌∙◌, subst, arith}
use Rattle.std.specs.Prelude.{unwrap_or}
use Rattle.std.specs.List.{AllByRecursion, slice_get}
use Rattle.std.specs.Option.{option_map}
use Rattle.coco_ast.proofs.Lists.{all_map}
use Rattle.coco_ast.specs.Fitting.{Fits}
use Rattle.coco_ast.specs.History.{AreAbove, History, IsOrdered, IsSerial, done_of, followed_by, rows_after}
use Rattle.coco_ast.specs.Keyed.{Rows}
use Rattle.coco_append.specs.EpochEntries.{AreRun, HasRunReady, HeldBy, IsNextIn, MayPrepareRun, MayRun, pieces_in}
use Rattle.coco_early.specs.Runs.{HasRun}
use Rattle.coco_entry.specs.Commits.{IsCommit}
use Rattle.coco_entry.specs.declared.commit.Commit.{Commit}
use Rattle.coco_entry.specs.declared.layout.Layout.{Layout}
use Rattle.coco_entry.specs.declared.prepared.Prepared.{Prepared}
use Rattle.coco_entry.specs.declared.prepared.Row.{Row}
use Rattle.coco_tail.specs.SerialEpoch.{IsSerialEpoch}
use Rattle.coco_finish.specs.declared.tables.NodeTables.{NodeTables}
use Rattle.coco_parallel.specs.Epochs.{beginning_with}
use Rattle.coco_tail.specs.Pieces.{pieces_of}
use Rattle.coco_host.specs.Files.{Files}
use Rattle.coco_letters.specs.declared.voter.Voter.{Voter}
use Rattle.coco_members.specs.Opened.{HoldTheirs}
use Rattle.coco_parallel.specs.Ending.{Start}
use Rattle.coco_parallel.specs.Traces.{IsTraceOf, Traced}
use Rattle.coco_append.specs.LastWrites.{AreLastWrites}
use Rattle.coco_shard.specs.RowState.{ShardState}
use Rattle.coco_store.specs.Contents.{Contents, IsGoodStore, epoch_of, history_of, map_in}
use Rattle.coco_store.specs.Laws.{HasReady, MayCommit}
use Rattle.coco_store.specs.Rules.{IsNextCommit, Setting}
use Rattle.coco_types.specs.Limits.{epochs_end}
use Rattle.coco_types.specs.declared.call.Done.{Done}
use Rattle.coco_types.specs.declared.call.Piece.{Piece}
use Rattle.coco_types.specs.declared.call.Request.{Request}
use Rattle.coco_vote.specs.Preparing.{Ballot, MayForce}
use Rattle.coco_vote.specs.Taking.{AreHeld}
use Rattle.coco_cluster.specs.Standing.{StandsAt}
use Rattle.coco_cluster.specs.Trying.{commit_of, MayCommitOn, RestsReady}
use Rattle.coco_cluster.specs.Turning.{AddsOnlyPrepared, HasRoom, MayTurn, beginning_on}
use Rattle.coco_cluster.specs.declared.cluster.Cluster.{Cluster}
use Rattle.coco_cluster.proofs.SeeingLemmas.{same_history, voted_adds, voted_below}
use Rattle.coco_trial.specs.Running.{GiveAll}

-- ---- the laws of runs, as they are called

abbrev pub RunsAreCommits : Type 0
RunsAreCommits = (files : Files) (c : Contents) → IsGoodStore files c → (requests : List Request) (epoch : ℕ) → MayRun c requests epoch
    → (dones : List Done) → AreRun c requests epoch dones → IsNextIn c requests (commit_of epoch dones)

pub record RunsArePrepared : Type 0 where
  pub may : (files : Files) (c : Contents) → IsGoodStore files c → (requests : List Request) (epoch : ℕ) → MayRun c requests epoch → (dones : List Done) → MayPrepareRun c requests epoch dones
  pub ready : (files : Files) (c : Contents) → IsGoodStore files c → (requests : List Request) (epoch : ℕ) → MayRun c requests epoch → (dones : List Done) → HasRunReady c requests epoch dones

-- ---- what nodes hold

abbrev pub held_at : List Voter → ℕ → List Bool
held_at voters n = unwrap_or (option_map (λ (v : Voter). v.held.items) (slice_get voters n)) []

pub are_held : (voters : List Voter) → AreHeld (held_at voters) voters
are_held voters n voter there = ap (λ (o : Option Voter). unwrap_or (option_map (λ (v : Voter). v.held.items) o) []) there

pub there_is : (voters : List Voter) (n : ℕ) → n < length voters → (v : Voter) × (slice_get voters n ≡ Some v)
there_is [] n less = absurd (omega (arith, less))
there_is (v ∷ vs) zero less = (v, refl)
there_is (v ∷ vs) (suc n) less = there_is vs n (omega (arith, less))

theirs : (layout : Layout) (voters : List Voter) (n : ℕ) → n < length voters → HoldTheirs layout voters → HeldBy layout n (held_at voters n)
theirs layout voters n less hold =
    let v = there_is voters n less in
    subst (HeldBy layout n) (sym (are_held voters n v.0 v.1)) (hold n v.0 v.1)

-- ---- a run

module _ (commits : RunsAreCommits) (prepares : RunsArePrepared) (k : Cluster) (requests : List Request) (c : Contents) (files : Files) (good : IsGoodStore files c) (stands : StandsAt c k) (room : HasRoom c requests)
    (may : MayTurn k requests) (some : 0 < length requests) (below : k.next_epoch < epochs_end)
    (s : Start) (shards : List ShardState) (dones : List Done) (pieces : List Piece) (trace : Traced) (run : HasRun s shards dones pieces trace)
    (procs_are : s.procs ≡ k.procs) (opening_is : s.opening ≡ map_in c) (requests_are : s.requests ≡ requests) (epoch_is : s.config.epoch ≡ k.next_epoch) (partitions_are : length s.shards ≡ k.members.tables.layout.partitions) where
  abbrev epoch : ℕ
  epoch = k.next_epoch

  abbrev h : History
  h = history_of c

  may_run : MayRun c requests epoch
  may_run = record {
    new = record {
      distinct = may.distinct;
      unkept = subst (λ ds. AllByRecursion (λ (r : Request). done_of r.id ds ≡ None) requests) stands.belongs.dones may.unkept;
      above = subst (λ f. AreAbove f (map (λ (r : Request). r.id) requests)) stands.belongs.floor may.above;
    };
    fit = subst (λ ps. AllByRecursion (λ (r : Request). Fits ps r.call) requests) stands.belongs.procs may.fit;
    some = some;
    few = may.few;
    room = room;
    next = record {
      above_base = stands.next.base;
      rises = all_map (λ (x : Commit). x.epoch) (λ n. n < epoch) c.commits stands.next.commits;
      below_end = below;
    };
  }

  -- the run is one of the store's map
  pub serial : IsSerialEpoch c.setting.tree requests epoch (map_in c) shards dones pieces
  serial =
      subst (λ ps. IsSerialEpoch ps requests epoch (map_in c) shards dones pieces) (procs_are ∙ stands.belongs.procs)
      (subst (λ rs. IsSerialEpoch s.procs rs epoch (map_in c) shards dones pieces) requests_are
      (subst (λ n. IsSerialEpoch s.procs s.requests n (map_in c) shards dones pieces) epoch_is
      (subst (λ m. IsSerialEpoch s.procs s.requests s.config.epoch m shards dones pieces) opening_is run.serial)))

  is_next : IsNextIn c requests (commit_of epoch dones)
  is_next = commits files c good requests epoch may_run dones (record { each = serial.each; early = serial.early; replies = serial.replies; times = serial.times })

  pieces_are : pieces ≡ pieces_in c requests dones
  pieces_are = serial.pieces ∙ ap (λ n. pieces_of c.setting.tree n requests (map_in c) dones) (run.count ∙ partitions_are ∙ ap (λ (l : Layout). l.partitions) stands.belongs.layout)

  abbrev ballot : Ballot
  ballot = record { epoch = epoch; pieces = pieces; held = held_at k.members.voters.items }

  last_so : (n : ℕ) (rows : List Row) → AreLastWrites (held_at k.members.voters.items n) pieces rows → AreLastWrites (held_at k.members.voters.items n) (pieces_in c requests dones) rows
  last_so n rows last = subst (λ ps. AreLastWrites (held_at k.members.voters.items n) ps rows) pieces_are last

  module _ (nodes : c.setting.entry.layout.nodes ≤ length k.members.voters.items) where
    held_by : (n : ℕ) → n < c.setting.entry.layout.nodes → HeldBy c.setting.entry.layout n (held_at k.members.voters.items n)
    held_by n less = theirs c.setting.entry.layout k.members.voters.items n (omega (arith, less, nodes)) stands.belongs.held

    -- each node may prepare it
    pub may_force : MayForce c ballot
    may_force n less rows last is = prepares.may files c good requests epoch may_run dones n less (record {
      above_base = stands.next.base;
      rises = all_map (λ (x : Prepared). x.epoch) (λ e. e < epoch) (c.prepared n) (stands.next.prepared n less);
      below_end = below;
    }) (held_at k.members.voters.items n) (held_by n less) rows (last_so n rows last) is

    module _ (reads : Option Files) (may_leave : Files → Type 0) (ready : RestsReady c ballot reads may_leave) where
      abbrev d : Contents
      d = ready.contents

      only : AddsOnlyPrepared c d
      only = voted_adds c ballot stands.next ready.has d ready.voted

      same : history_of d ≡ h
      same = same_history c d only

      node_ready : (n : ℕ) → n < d.setting.entry.layout.nodes → HasReady d (commit_of epoch dones) n
      node_ready n less =
          let node : n < c.setting.entry.layout.nodes = subst (λ (t : Setting). n < t.entry.layout.nodes) only.setting less in
          let p = ready.voted.prepared n (ready.all n node) in
          prepares.ready files c good requests epoch may_run dones n node (held_at k.members.voters.items n) (held_by n node) p.rows (last_so n p.rows p.last) d only.setting only.base only.commits (c.prepared n) [] p.entry

      may_commit : IsCommit (commit_of epoch dones) → MayCommit d (commit_of epoch dones)
      may_commit is = record {
        is = is;
        next = subst (λ (t : Setting). IsNextCommit t d.base d.commits (commit_of epoch dones)) (sym only.setting) (subst (λ b. IsNextCommit c.setting b d.commits (commit_of epoch dones)) (sym only.base)
            (subst (λ cs. IsNextCommit c.setting c.base cs (commit_of epoch dones)) (sym only.commits) is_next.next));
        ordered = subst (λ g. IsOrdered (followed_by g (epoch_of (commit_of epoch dones)))) (sym same) is_next.ordered;
        serial = subst (λ (t : Setting). IsSerial t.tree (followed_by (history_of d) (epoch_of (commit_of epoch dones)))) (sym only.setting)
            (subst (λ g. IsSerial c.setting.tree (followed_by g (epoch_of (commit_of epoch dones)))) (sym same) is_next.serial);
        ready = node_ready;
      }

      -- and where all have, it may be committed
      pub may_commit_on : (workers attempts : ℕ) (tables : NodeTables) → s.config.workers ≡ workers → s.config.attempts ≡ attempts → GiveAll (rows_after s.procs s.opening dones) tables
          → MayCommitOn c requests workers attempts epoch dones trace tables reads may_leave
      may_commit_on workers attempts tables workers_are attempts_are gives = record {
        d = d;
        only = only;
        below = voted_below c ballot stands.next ready.has d ready.voted;
        rests = ready.rests;
        commit = may_commit;
        traced = subst (λ b. IsTraceOf b epoch dones trace) begins (subst (λ n. IsTraceOf (beginning_with s.procs s.opening s.requests s.shards s.config) n dones trace) epoch_is run.trace_is);
        grows = is_next.grown;
        gives = subst (λ (m : Rows). GiveAll m tables) (ap (λ ps. rows_after ps s.opening dones) (procs_are ∙ stands.belongs.procs) ∙ ap (λ m. rows_after c.setting.tree m dones) opening_is) gives;
      }
        where
          begins : beginning_with s.procs s.opening s.requests s.shards s.config ≡ beginning_on c requests workers attempts
          begins =
              ap (λ ps. record { procs = ps; opening = s.opening; requests = s.requests; partitions = length s.shards; workers = s.config.workers; attempts = s.config.attempts }) (procs_are ∙ stands.belongs.procs)
              ∙ ap (λ m. record { procs = c.setting.tree; opening = m; requests = s.requests; partitions = length s.shards; workers = s.config.workers; attempts = s.config.attempts }) opening_is
              ∙ ap (λ rs. record { procs = c.setting.tree; opening = map_in c; requests = rs; partitions = length s.shards; workers = s.config.workers; attempts = s.config.attempts }) requests_are
              ∙ ap (λ n. record { procs = c.setting.tree; opening = map_in c; requests = requests; partitions = n; workers = s.config.workers; attempts = s.config.attempts }) (partitions_are ∙ ap (λ (l : Layout). l.partitions) stands.belongs.layout)
              ∙ ap (λ n. record { procs = c.setting.tree; opening = map_in c; requests = requests; partitions = c.setting.entry.layout.partitions; workers = n; attempts = s.config.attempts }) workers_are
              ∙ ap (λ n. record { procs = c.setting.tree; opening = map_in c; requests = requests; partitions = c.setting.entry.layout.partitions; workers = workers; attempts = n }) attempts_are
