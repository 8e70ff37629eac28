-- What comes of an epoch that was tried on a cluster: on every host, and where files are told.
use Rattle.std.proofs.Common.{◌≡◌, ℕ, ◌+◌, ◌<◌, ◌≤◌, Bool, true, false, List, [], map, length, Option, Result, IsErr, IfOk, refl, sym, ap, ◌∙◌, subst, arith}
use Rattle.std.specs.Global.{Vec}
use Rattle.std.proofs.lemmas.Result.{IfOk-from_err}
use Rattle.coco_append.specs.Gaining.{RestsOn}
use Rattle.coco_ast.specs.History.{rows_after}
use Rattle.coco_ast.specs.Keyed.{Rows}
use Rattle.coco_early.specs.Runs.{HasRun}
use Rattle.coco_entry.specs.declared.layout.Layout.{Layout}
use Rattle.coco_finish.specs.Finishing.{AreWhole}
use Rattle.coco_finish.specs.declared.tables.NodeTables.{NodeTables}
use Rattle.coco_host.specs.Files.{Files}
use Rattle.coco_host.specs.Moments.{Observation}
use Rattle.coco_host.specs.declared.host.Host.{Ghosts as HostGhosts}
use Rattle.coco_lost.specs.Requests.{AreRequestsOf}
use Rattle.coco_members.proofs.TableLemmas.{primaries_stand}
use Rattle.coco_members.specs.AtRest.{primaries_of, scene_of, NoneBehind, ShardsHaveMap}
use Rattle.coco_members.specs.declared.members.Members.{Members}
use Rattle.coco_net.specs.declared.letter.Posted.{Posted}
use Rattle.coco_parallel.specs.Ending.{Start}
use Rattle.coco_parallel.specs.Traces.{Traced}
use Rattle.coco_shard.specs.RowState.{ShardState}
use Rattle.coco_ship.specs.Pieces.{AreShippable}
use Rattle.coco_ship.specs.Placing.{IsRing}
use Rattle.coco_ship.specs.Shipping.{AreBegun}
use Rattle.coco_standing.proofs.AtRest.{at_rest_keep}
use Rattle.coco_standing.specs.Standing.{AreCounted, TablesKeep}
use Rattle.coco_store.specs.Contents.{Contents, map_in}
use Rattle.coco_trial.specs.Running.{ring_of, start_on, GiveShards, HaveAll, HaveShards, KeepAll, SamePlaces}
use Rattle.coco_types.specs.Limits.{epochs_end}
use Rattle.coco_types.specs.declared.call.Done.{Done}
use Rattle.coco_types.specs.declared.call.Piece.{Piece}
use Rattle.coco_types.specs.declared.call.Request.{Request}
use Rattle.coco_vote.specs.Preparing.{MayForce}
use Rattle.coco_vote.proofs.VoterLemmas.{places_same}
use Rattle.coco_worker.specs.declared.slot.EpochConfig.{EpochConfig}
use Rattle.coco_cluster.specs.Entries.{DecidesEntries, StepsOn}
use Rattle.coco_cluster.specs.Standing.{IsSound, StandsAt}
use Rattle.coco_cluster.specs.Trying.{ballot_on, AreQuiet, ComesOn, DecidesFiles, DecidesOn, GiveIf, HasGivenUp, HasVoted, Keeps, KeepShards, MayCommitOn, MayGoOn, RestsDecided, StayInPlace, StaysInPlace, TriesFiles}
use Rattle.coco_cluster.specs.Turning.{HasRoom, MayTurn}
use Rattle.coco_cluster.specs.declared.cluster.Cluster.{Cluster}
use Rattle.coco_cluster.specs.declared.trying.Tried.{Tried}
use Rattle.coco_cluster.proofs.DecideLemmas.{idle_keeps, rests_now}
use Rattle.coco_cluster.proofs.RestLemmas.{rest_is_quiet, stay_then}
use Rattle.coco_cluster.proofs.RunLemmas.{are_held, held_at, may_commit_on, may_force, RunsAreCommits, RunsArePrepared}
use Rattle.coco_cluster.proofs.SeeingLemmas.{OnlyNow}
use Rattle.coco_cluster.proofs.TryLemmas.{gives_run, have_shards, keep_shards, keeps_run, none_stand, primaries_counted, quiet_run, requests_again, ring_ok, traced_at}

-- what the workers of an epoch are told
abbrev pub told_of : Cluster → ℕ → ℕ → EpochConfig
told_of k workers attempts =
    record { epoch = k.next_epoch; workers = workers; started = workers; attempts = attempts; nodes = k.members.tables.layout.nodes; copies = k.members.tables.layout.copies }

-- The requests of a turn were run on the tables of a sound cluster of which no node is behind, and the tables are these behind it.
pub record HaveBeenRun (k : Cluster) (sent : List Posted) (requests : List Request) (workers attempts : ℕ) (carries : ℕ → ℕ → ℕ → ℕ → Bool) (t : NodeTables) (dones : List Done) (pieces : List Piece) (trace : Traced) : Type 0 where
  pub sound : IsSound k sent
  pub up : NoneBehind k.members.tables
  pub may : MayTurn k requests
  pub ran : (m : Rows) → HaveShards m k.members.tables → HasRun (start_on k.procs m requests k.members.tables (told_of k workers attempts) carries) t.shards.items dones pieces trace
  pub keep : (m : Rows) → HaveAll m k.members.tables → KeepAll m t
  pub shippable : AreShippable (ring_of k.members.tables.layout) pieces
  pub begun : AreBegun (ring_of k.members.tables.layout) k.next_epoch pieces t.copies.items
  pub places : SamePlaces k.members.tables t

pub been_run : (k : Cluster) (sent : List Posted) (requests : List Request) (workers attempts : ℕ) (config : EpochConfig) (carries : ℕ → ℕ → ℕ → ℕ → Bool) (t : NodeTables) (dones : List Done) (pieces slice : List Piece) (trace : Traced) → config ≡ told_of k workers attempts → slice ≡ pieces
    → IsSound k sent → NoneBehind k.members.tables → MayTurn k requests
    → ((m : Rows) → HaveShards m k.members.tables → HasRun (start_on k.procs m requests k.members.tables config carries) t.shards.items dones pieces trace) → ((m : Rows) → HaveAll m k.members.tables → KeepAll m t)
    → AreShippable (ring_of k.members.tables.layout) pieces → AreBegun (ring_of k.members.tables.layout) config.epoch pieces t.copies.items → SamePlaces k.members.tables t
    → HaveBeenRun k sent requests workers attempts carries t dones slice trace
been_run k sent requests workers attempts config carries t dones pieces slice trace told same sound up may ran keep shippable begun places = subst (λ (ps : List Piece). HaveBeenRun k sent requests workers attempts carries t dones ps trace) (sym same) (record {
  sound = sound;
  up = up;
  may = may;
  ran = subst (λ (x : EpochConfig). (m : Rows) → HaveShards m k.members.tables → HasRun (start_on k.procs m requests k.members.tables x carries) t.shards.items dones pieces trace) told ran;
  keep = keep;
  shippable = shippable;
  begun = subst (λ (x : EpochConfig). AreBegun (ring_of k.members.tables.layout) x.epoch pieces t.copies.items) told begun;
  places = places;
})

-- where nothing was written, and the epoch failed
pub tried_in_vain : {H E : Type 0} (frame : HostGhosts H) → OnlyNow frame
    → (r : Result Tried E) (requests : List Request) (workers attempts : ℕ) (old new : Cluster) (host : H) → IsErr r → TriesFiles frame r requests workers attempts old new host host
tried_in_vain frame only_now r requests workers attempts old new host failed c rests stands room = (
  idle_keeps frame only_now c old.next_epoch host rests stands.next,
  IfOk-from_err r (λ tried. ComesOn tried c requests workers attempts old.next_epoch new.members.tables (frame.reads host) (frame.may_leave host)) failed,
)

-- ---- where a node stops before the run

tables_same : (old new : Members) → new ≡ record old { cores = new.cores; voters = new.voters } → old.tables ≡ new.tables
tables_same old new same = sym (ap (λ (k : Members). k.tables) same)

pub stopped_keeps : (old new : Members) (m : Rows) → new ≡ record old { cores = new.cores; voters = new.voters } → NoneBehind old.tables → ShardsHaveMap m old.tables → KeepShards m new.tables
stopped_keeps old new m same none has = subst (KeepShards m) (tables_same old new same) (keep_shards m old.tables (have_shards m old.tables none has))

pub stopped_on : (k : Cluster) (new : Members) (c : Contents) (reads : Option Files) (may_leave : Files → Type 0) → new ≡ record k.members { cores = new.cores; voters = new.voters } → NoneBehind k.members.tables → RestsOn c reads may_leave → StandsAt c k
    → MayGoOn c k.next_epoch new.tables reads may_leave
stopped_on k new c reads may_leave same none rests stands =
    let t : NodeTables = k.members.tables in
    record {
      rests = rests_now c k.next_epoch reads may_leave rests stands.next;
      keeps = subst (KeepAll (map_in c)) (tables_same k.members new same) (at_rest_keep t.layout (map_in c) t.shards.items t.copies.items
          (none_stand t.layout (map_in c) t.behind.items t.shards.items t.copies.items none stands.map));
    }

-- ---- where it is run

module _ {k : Cluster} {sent : List Posted} {requests : List Request} {workers attempts : ℕ} {carries : ℕ → ℕ → ℕ → ℕ → Bool} {t : NodeTables} {dones : List Done} {pieces : List Piece} {trace : Traced}
    (run : HaveBeenRun k sent requests workers attempts carries t dones pieces trace) where
  abbrev old : NodeTables
  old = k.members.tables

  abbrev start : Rows → Start
  start m = start_on k.procs m requests old (told_of k workers attempts) carries

  -- ---- behind the run

  has_run : (m : Rows) → ShardsHaveMap m old → HasRun (start m) t.shards.items dones pieces trace
  has_run m has = run.ran m (have_shards m old run.up has)

  abbrev m0 : Rows
  m0 = run.sound.rests.rest.map.0

  run0 : HasRun (start m0) t.shards.items dones pieces trace
  run0 = has_run m0 run.sound.rests.rest.map.1

  pub whole_run : AreWhole t
  whole_run = subst (λ (l : Layout). AreCounted l t.shards.items t.copies.items) (sym run.places.layout) (record {
    ring = run.sound.rests.rest.are.whole.ring;
    shard_count = run0.count ∙ run.sound.rests.rest.are.whole.shard_count;
    copy_count = run.begun.count;
  })

  counted : AreCounted (primaries_of t.layout) t.shards.items []
  counted = primaries_counted t.layout t.shards.items t.shards.items t.copies.items whole_run refl

  pub ring_run : IsRing (ring_of t.layout)
  ring_run = subst (λ (l : Layout). IsRing (ring_of l)) (sym run.places.layout) (ring_ok k.members run.sound.rests.rest.are run.sound.rests.partitions)

  pub shippable_run : AreShippable (ring_of t.layout) pieces
  shippable_run = subst (λ (l : Layout). AreShippable (ring_of l) pieces) (sym run.places.layout) run.shippable

  pub begun_run : AreBegun (ring_of t.layout) k.next_epoch pieces t.copies.items
  begun_run = subst (λ (l : Layout). AreBegun (ring_of l) k.next_epoch pieces t.copies.items) (sym run.places.layout) run.begun

  abbrev mid : Members
  mid = record k.members { tables = t }

  pub quiet_mid : AreQuiet k.next_epoch sent mid
  quiet_mid = quiet_run k.next_epoch sent k.members mid refl run.places.layout run.places.behind whole_run (rest_is_quiet k.next_epoch sent k.members run.sound.rests.rest)

  gives : (m : Rows) → HasRun (start m) t.shards.items dones pieces trace → GiveShards (rows_after k.procs m dones) t
  gives m ran = gives_run (start m) t.layout t.shards.items dones pieces trace ran counted

  keeps : (m : Rows) → HasRun (start m) t.shards.items dones pieces trace → KeepShards m t
  keeps m ran = keeps_run (start m) t.layout t.shards.items dones pieces trace ran counted

  -- ---- behind the decision

  module _ (new : Cluster) (procs : new.procs ≡ k.procs) (kept : new.kept ≡ record k.kept { room = new.kept.room }) (base : new.base ≡ k.base) (next : new.next_epoch ≡ k.next_epoch) (trace_same : new.trace ≡ k.trace)
      (stay : StayInPlace mid new.members) where
    pub stays_tried : StaysInPlace k new
    stays_tried = record {
      procs = procs;
      kept = kept;
      base = base;
      next = next;
      trace = trace_same;
      members = stay_then k.members mid new.members (record { log = refl; tables = run.places; places = places_same k.members.voters.items; committed = refl }) stay;
    }

    -- all have voted
    pub voted_so : (sent_new : List Posted) (m : Rows) → ShardsHaveMap m old → length dones ≤ new.kept.room → DecidesOn true k.next_epoch sent_new mid new.members → HasVoted requests workers attempts m dones trace sent_new k new
    voted_so sent_new m has room decides = record {
      each = run0.serial.each;
      traced = traced_at k m requests workers attempts k.next_epoch (told_of k workers attempts) old.shards.items dones trace run.sound.rests.rest.are.whole.shard_count refl refl (has_run m has).trace_is;
      voted = decides (rows_after k.procs m dones) (gives m (has_run m has));
      room = room;
    }

    -- it was given up
    pub given_up_so : (sent_new : List Posted) (m : Rows) (ids : List ℕ) (again : List Request) → ShardsHaveMap m old → new.members.tables.shards ≡ t.shards → DecidesOn false k.next_epoch sent_new mid new.members
        → ids ≡ map (λ (r : Request). r.id) requests → ((rs : List Request) → AreRequestsOf ids dones rs → again ≡ rs) → HasGivenUp requests again m sent_new k new
    given_up_so sent_new m ids again has shards decides ids_are back = record {
      same = back requests (requests_again k.next_epoch requests dones ids run.may.distinct ids_are run0.serial.each);
      quiet = decides;
      keeps = subst (λ (l : Layout). TablesKeep (primaries_of l) m new.members.tables.shards.items []) (sym stay.tables.layout)
          (subst (λ (ss : Vec ShardState). TablesKeep (primaries_of t.layout) m ss.items []) (sym shards) (keeps m (has_run m has)));
    }

  -- ---- where files are told

  module _ {H E : Type 0} (frame : HostGhosts H) (r : Result Bool E) (host host_new : H)
      (decided : DecidesFiles frame r k.next_epoch pieces mid host host_new) (commits : RunsAreCommits) (prepares : RunsArePrepared) (some : 0 < length requests) (below : k.next_epoch < epochs_end)
      (c : Contents) (rests : RestsOn c (frame.reads host) (frame.may_leave host)) (stands : StandsAt c k) (room : HasRoom c requests) where
    abbrev m1 : Rows
    m1 = map_in c

    all : HaveAll m1 old
    all = none_stand old.layout m1 old.behind.items old.shards.items old.copies.items run.up stands.map

    run1 : HasRun (start m1) t.shards.items dones pieces trace
    run1 = run.ran m1 (primaries_stand old.layout m1 (λ n. false) old.shards.items old.copies.items all)

    keep1 : KeepAll m1 t
    keep1 = run.keep m1 all

    nodes : c.setting.entry.layout.nodes ≡ length k.members.cores.items
    nodes = sym (ap (λ (l : Layout). l.nodes) stands.belongs.layout) ∙ run.sound.rests.rest.are.layout

    nodes_voters : c.setting.entry.layout.nodes ≤ length k.members.voters.items
    nodes_voters = (let voters = run.sound.rests.rest.are.voters in omega (arith, nodes, voters))

    force : MayForce c (ballot_on k.next_epoch pieces (held_at k.members.voters.items))
    force = may_force commits prepares k requests c rests.files rests.good stands room run.may some below (start m1) t.shards.items dones pieces trace run1 refl refl refl refl run.sound.rests.rest.are.whole.shard_count nodes_voters

    pub decided_files : Keeps frame c (k.next_epoch + 1) host host_new
        × IfOk r (λ all. RestsDecided all c (ballot_on k.next_epoch pieces (held_at k.members.voters.items)) (frame.reads host_new) (frame.may_leave host_new))
    decided_files = decided c (held_at k.members.voters.items) (rows_after k.procs m1 dones) (gives m1 run1) (are_held k.members.voters.items) force nodes stands.belongs.logs rests stands.next

    pub may_commit : (tables : NodeTables) → RestsDecided true c (ballot_on k.next_epoch pieces (held_at k.members.voters.items)) (frame.reads host_new) (frame.may_leave host_new) → GiveIf true k.next_epoch pieces t tables
        → MayCommitOn c requests workers attempts k.next_epoch dones trace tables (frame.reads host_new) (frame.may_leave host_new)
    may_commit tables ready give = may_commit_on commits prepares k requests c rests.files rests.good stands room run.may some below (start m1) t.shards.items dones pieces trace run1 refl refl refl refl run.sound.rests.rest.are.whole.shard_count nodes_voters
        (frame.reads host_new) (frame.may_leave host_new) ready workers attempts tables refl refl (give refl (start m1) dones trace refl run1 keep1)

    pub may_go_on : (tables : NodeTables) → RestsDecided false c (ballot_on k.next_epoch pieces (held_at k.members.voters.items)) (frame.reads host_new) (frame.may_leave host_new) → ((m : Rows) → KeepAll m t → KeepAll m tables)
        → MayGoOn c k.next_epoch tables (frame.reads host_new) (frame.may_leave host_new)
    may_go_on tables ready keep = record { rests = ready; keeps = keep m1 keep1 }

    -- the steps of nodes and coordinator, where they gain the entries that the files gain
    pub entered : (d : Contents) (i j : ℕ → ℕ) (new : Members) (sent_new : List Posted) → DecidesEntries frame.reads frame.may_leave k.next_epoch pieces i j mid new sent sent_new host host_new → RestsOn d (frame.reads host_new) (frame.may_leave host_new)
        → StepsOn c d i j k.next_epoch (k.next_epoch + 1) [] (scene_of k.members sent) (scene_of new sent_new)
    entered d i j new sent_new entries behind = entries c d (held_at k.members.voters.items) (are_held k.members.voters.items) force nodes stands.belongs.logs rests behind
