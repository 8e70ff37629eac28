-- From the end of one epoch to the next, and what is told of it.
use Rattle.std.specs.Global.{Vec}
use Rattle.std.proofs.Common.{◌≡◌, ℕ, ◌+◌, ◌^◌, ◌<◌, ◌≤◌, ◌==◌, ◌||◌, Bool, true, false, List, [], ◌∷◌, ◌++◌, length, map, filter, not, length-append, Option, Some, None, refl, sym, ap, ◌∙◌, subst, arith}
use Rattle.std.specs.Prelude.{slice_index}
use Rattle.std.specs.List.{AllByRecursion, slice_get}
use Rattle.std.specs.Option.{option_map}
use Rattle.std.proofs.lemmas.Bool.Decides.{nat_tests}
use Rattle.std.proofs.lemmas.List.{map-append}
use Rattle.std.proofs.lemmas.List.Elements.{All-from_recursion}
use Rattle.std.proofs.lemmas.List.Filters.{length-filter_both}
use Rattle.coco_append.specs.Gaining.{Stands}
use Rattle.coco_ast.proofs.KeptLemmas.{follows}
use Rattle.coco_ast.proofs.Lists.{all_weaker}
use Rattle.coco_ast.specs.Growth.{IsEpochOf}
use Rattle.coco_ast.specs.History.{Epoch, done_of, floor, floor_of, followed_by, is_held, kept, kept_of, map_of, rows_after}
use Rattle.coco_ast.specs.Keyed.{Rows}
use Rattle.coco_chief.specs.Chief.{has}
use Rattle.coco_chief.specs.Shown.{chief_of}
use Rattle.coco_append.specs.EpochEntries.{HeldBy}
use Rattle.coco_entry.proofs.FitLemmas.{fit_all}
use Rattle.coco_entry.specs.Commits.{AreOf}
use Rattle.coco_entry.specs.declared.commit.Commit.{Commit}
use Rattle.coco_entry.specs.declared.layout.Layout.{Layout}
use Rattle.coco_finish.specs.Finishing.{is_behind, HaveMap}
use Rattle.coco_finish.specs.declared.tables.NodeTables.{NodeTables}
use Rattle.coco_host.specs.Files.{Files}
use Rattle.coco_kept.specs.Holding.{MayFollow, NeverFall}
use Rattle.coco_kept.specs.Keeping.{HoldsKept, Keeping}
use Rattle.coco_letters.specs.declared.voter.Voter.{Voter}
use Rattle.coco_load.specs.RowMaps.{joined}
use Rattle.coco_log.specs.LogState.{LogState}
use Rattle.coco_lost.specs.Reading.{AreInFiles, CanBeRead}
use Rattle.coco_members.specs.AtRest.{AreAtRest, NoneBehind, ShardsHaveMap, NoneLost}
use Rattle.coco_members.specs.declared.members.Members.{Members}
use Rattle.coco_net.specs.declared.letter.Posted.{Posted}
use Rattle.coco_parallel.specs.Traces.{IsTraceOf, Traced, traced}
use Rattle.coco_store.specs.Contents.{Contents, epoch_of, history_of, map_in}
use Rattle.coco_store.specs.Laws.{with_commit}
use Rattle.coco_store.specs.Rules.{base_values, commit_epochs, Setting}
use Rattle.coco_types.specs.Limits.{epochs_end, most_partitions}
use Rattle.coco_types.specs.declared.call.Done.{Done}
use Rattle.coco_types.specs.declared.call.Request.{Request}
use Rattle.coco_vote.proofs.VoterLemmas.{logs_still}
use Rattle.coco_trial.specs.Running.{KeepAll}
use Rattle.coco_vote.specs.Taking.{AreReady, KeepPlaces}
use Rattle.coco_cluster.specs.Attempts.{HasCommittedOne, IsGivenBack}
use Rattle.coco_cluster.specs.Ending.{HasEnded, IsForgotten}
use Rattle.coco_cluster.specs.Standing.{AllStand, BelongsTo, IsBehindAll, IsSound, KeepsBelow, MayStop, Rests, StandsAt}
use Rattle.coco_cluster.specs.Trying.{commit_of, AreQuiet, HasGivenUp, KeepShards, StayInPlace, StaysInPlace, LoseIfTold}
use Rattle.coco_cluster.specs.Turning.{AddsOnlyPrepared, MayTurn, beginning_at}
use Rattle.coco_cluster.specs.declared.cluster.Cluster.{Cluster}
use Rattle.coco_cluster.proofs.BehindLemmas.{behind_commit}
use Rattle.coco_cluster.proofs.KeepLemmas.{as_many, floor_now, keeps_on, kept_now, may_follow, same_kept}
use Rattle.coco_cluster.proofs.RestLemmas.{stay_then}
use Rattle.coco_cluster.proofs.SeeingLemmas.{same_history, same_map}
use Rattle.coco_cluster.proofs.StopLemmas.{none_lost}
use Rattle.coco_types.specs.RowKey.{RowKey}
use Rattle.coco_types.specs.declared.value.Value.{Value}

-- ---- what stays through an epoch that is tried

keeps_later : (k : Keeping) (next later : ℕ) → next ≤ later → KeepsBelow k next → KeepsBelow k later
keeps_later k next later le keeps = record {
  before = keeps.before;
  added = keeps.added;
  holds = keeps.holds;
  rising = keeps.rising;
  below = all_weaker (λ (d : Done). d.epoch < next) (λ (d : Done). d.epoch < later) (λ d less. omega (arith, less, le)) keeps.added keeps.below;
  once = keeps.once;
}

pub room_keeps : (k now : Keeping) (next : ℕ) → now ≡ record k { room = now.room } → KeepsBelow k next → KeepsBelow now next
room_keeps k now next same keeps = same_kept k now next (ap (λ (n : Keeping). n.dones) same) (ap (λ (n : Keeping). n.floor) same) (ap (λ (n : Keeping). n.keep) same) keeps

in_files_still : (layout later : Layout) (voters voters_new : List Voter) → later ≡ layout → KeepPlaces voters voters_new → AreInFiles layout voters → AreInFiles later voters_new
in_files_still layout later voters voters_new same places files n now there =
    let was = places n now there in
    was.2.file ∙ files n was.0 was.1 ∙ ap (λ (l : Layout). slice_index l.node_files n) (sym same)

pub can_still : (old new : Members) → new.tables.layout ≡ old.tables.layout → ((e : ℕ) → (chief_of new.chief).committed e ≡ true → old.tables.layout.base_epoch < e) → CanBeRead old → CanBeRead new
can_still old new layout above can = record {
  files = ap (λ (l : Layout). length l.node_files) layout ∙ can.files ∙ ap (λ (l : Layout). l.nodes) (sym layout);
  above = λ e committed. subst (λ (l : Layout). l.base_epoch < e) (sym layout) (above e committed);
}

pub stops_still : (old new : Members) → StayInPlace old new → MayStop old → MayStop new
stops_still old new stays stops = record {
  files = in_files_still old.tables.layout new.tables.layout old.voters.items new.voters.items stays.tables.layout stays.places stops.files;
  read = can_still old new stays.tables.layout (λ e committed. stops.read.above e (ap (λ (f : ℕ → Bool). f e) (sym stays.committed) ∙ committed)) stops.read;
}

-- what belongs to contents does so still, also where prepared entries were added
pub belongs_still : (c d : Contents) (old new : Cluster) → AddsOnlyPrepared c d → new.procs ≡ old.procs → new.base ≡ old.base → new.kept ≡ record old.kept { room = new.kept.room } → StayInPlace old.members new.members
    → BelongsTo c old → BelongsTo d new
belongs_still c d old new only procs base room stays belongs = record {
  procs = procs ∙ belongs.procs ∙ ap (λ (s : Setting). s.tree) (sym only.setting);
  dones = ap (λ (n : Keeping). n.dones) room ∙ belongs.dones ∙ ap kept (sym (same_history c d only));
  floor = ap (λ (n : Keeping). n.floor) room ∙ belongs.floor ∙ ap floor (sym (same_history c d only));
  keep = ap (λ (n : Keeping). n.keep) room ∙ belongs.keep ∙ ap (λ (s : Setting). s.entry.keep) (sym only.setting);
  layout = stays.tables.layout ∙ belongs.layout ∙ ap (λ (s : Setting). s.entry.layout) (sym only.setting);
  base = ap base_values only.base ∙ belongs.base ∙ ap (λ (b : Vec (List (RowKey × Value))). joined b.items) (sym base);
  chief = record {
    file = ap (λ (l : LogState). l.file) stays.log ∙ belongs.chief.file ∙ ap (λ (s : Setting). s.entry.layout.chief_file) (sym only.setting);
    kind = ap (λ (l : LogState). l.kind) stays.log ∙ belongs.chief.kind;
  };
  logs = λ n voter there. (let log = logs_still c old.members.voters.items new.members.voters.items stays.places belongs.logs n voter there in
      record { file = log.file ∙ ap (λ (s : Setting). slice_index s.entry.layout.node_files n) (sym only.setting); kind = log.kind });
  held = λ n now there. (let was = stays.places n now there in
      subst (λ (s : Setting). HeldBy s.entry.layout n now.held.items) (sym only.setting) (subst (λ (h : Vec Bool). HeldBy c.setting.entry.layout n h.items) (sym was.2.held) (belongs.held n was.0 was.1)));
  commits = λ e. ap (λ (f : ℕ → Bool). f e) stays.committed ∙ belongs.commits e ∙ ap (λ (cs : List Commit). has (commit_epochs cs) e) (sym only.commits);
}

-- ---- behind an epoch that was given up

pub stay_forgotten : (old new : Cluster) → IsForgotten old new → StayInPlace old.members new.members
stay_forgotten old new gone = record {
  log = ap (λ (k : Cluster). k.members.log) gone.same;
  tables = record { layout = ap (λ (k : Cluster). k.members.tables.layout) gone.same ∙ gone.layout; behind = ap (λ (k : Cluster). k.members.tables.behind) gone.same ∙ gone.behind };
  places = λ n now there. (now, subst (λ (k : Cluster). slice_get k.members.voters.items n ≡ Some now) gone.same there, record { held = refl; file = refl; kind = refl });
  committed = ap (λ (k : Cluster). (chief_of k.members.chief).committed) gone.same;
}

pub rests_forgotten : (first old new : Cluster) (sent before : List Posted) → IsForgotten old new → StaysInPlace first old → Rests first before → first.next_epoch < epochs_end → AreAtRest new.next_epoch sent new.members → Rests new sent
rests_forgotten first old new sent before gone stays rests below rest =
    let next : new.next_epoch ≡ first.next_epoch + 1 = gone.next ∙ ap (λ n. n + 1) stays.next in
    let placed = stay_forgotten old new gone in
    let layout : new.members.tables.layout ≡ first.members.tables.layout = placed.tables.layout ∙ stays.members.tables.layout in
    record {
      keeps = subst (λ n. KeepsBelow new.kept n) (sym next) (subst (λ n. KeepsBelow n (first.next_epoch + 1)) (sym (ap (λ (k : Cluster). k.kept) gone.same))
          (keeps_later old.kept first.next_epoch (first.next_epoch + 1) (omega arith) (room_keeps first.kept old.kept first.next_epoch stays.kept rests.keeps)));
      first = omega (arith, next);
      end = omega (arith, next, below);
      base = subst (λ (l : Layout). l.base_epoch < new.next_epoch) (sym layout) (let b = rests.base in omega (arith, next, b));
      partitions = subst (λ (l : Layout). l.partitions ≤ most_partitions) (sym layout) rests.partitions;
      rest = rest;
      unspent = ap (λ (l : LogState). l.spent) (placed.log ∙ stays.members.log) ∙ rests.unspent;
      stops = stops_still old.members new.members placed (stops_still first.members old.members stays.members rests.stops);
    }

none_still : (old new : NodeTables) → new.behind ≡ old.behind → NoneBehind old → NoneBehind new
none_still old new same none n = ap (λ (b : Vec Bool). is_behind b.items n) same ∙ none n

module _ (first old new : Cluster) (stays : StaysInPlace first old) (gone : IsForgotten old new) (up : NoneBehind first.members.tables) where
  pub next_forgotten : new.next_epoch ≡ first.next_epoch + 1
  next_forgotten = gone.next ∙ ap (λ n. n + 1) stays.next

  pub kept_forgotten : new.kept ≡ record first.kept { room = new.kept.room }
  kept_forgotten = ap (λ (k : Cluster). k.kept) gone.same ∙ stays.kept ∙ ap (λ n. record first.kept { room = n }) (sym (ap (λ (k : Cluster). k.kept.room) gone.same))

  pub procs_forgotten : new.procs ≡ first.procs
  procs_forgotten = ap (λ (k : Cluster). k.procs) gone.same ∙ stays.procs

  pub trace_forgotten : new.trace ≡ first.trace
  trace_forgotten = ap (λ (k : Cluster). k.trace) gone.same ∙ stays.trace

  placed : StayInPlace first.members new.members
  placed = stay_then first.members old.members new.members stays.members (stay_forgotten old new gone)

  pub layout_forgotten : new.members.tables.layout ≡ first.members.tables.layout
  layout_forgotten = placed.tables.layout

  up_still : NoneBehind old.members.tables
  up_still = none_still first.members.tables old.members.tables stays.members.tables.behind up

  -- on every host nodes and coordinator rest
  pub rests_gone : (before sent : List Posted) (requests again : List Request) (m : Rows) → IsSound first before → first.next_epoch < epochs_end → HasGivenUp requests again m sent first old
      → ((posts : List Posted) (rows : Rows) → AreQuiet (old.next_epoch + 1) posts old.members → NoneBehind old.members.tables → KeepShards rows old.members.tables → AreAtRest new.next_epoch posts new.members) → Rests new sent
  rests_gone before sent requests again m sound below given rest =
      rests_forgotten first old new sent before gone stays sound.rests below (rest sent m (subst (λ n. AreQuiet (n + 1) sent old.members) (sym stays.next) given.quiet) up_still given.keeps)

  -- where files are told the cluster stands at what they have
  pub stands_gone : (c d : Contents) → AddsOnlyPrepared c d → IsBehindAll d (first.next_epoch + 1) → KeepAll (map_in c) old.members.tables
      → ((rows : Rows) → NoneBehind old.members.tables → KeepAll rows old.members.tables → HaveMap rows new.members.tables) → StandsAt c first → StandsAt d new
  stands_gone c d only behind keeps map stands = record {
    belongs = belongs_still c d first new only procs_forgotten (ap (λ (k : Cluster). k.base) gone.same ∙ stays.base) kept_forgotten placed stands.belongs;
    map = subst (λ m. HaveMap m new.members.tables) (sym (same_map c d only)) (map (map_in c) up_still keeps);
    next = subst (IsBehindAll d) (sym next_forgotten) behind;
  }

  -- and where no stop was told the shards have their map still, since no node was read anew
  pub shards_gone : (m : Rows) → KeepShards m old.members.tables → ((rows : Rows) → NoneBehind old.members.tables → KeepShards rows old.members.tables → ShardsHaveMap rows new.members.tables)
      → (seen seen_new : ℕ) → LoseIfTold seen seen_new first.members.voters.items old.members.voters.items → seen_new ≡ seen → NoneLost first.members.voters.items
      → (read : Cluster) → (NoneLost new.members.voters.items → read ≡ new) → ShardsHaveMap m read.members.tables
  shards_gone m keeps shards seen seen_new lose is whole read untouched =
      let none : NoneLost old.members.voters.items = none_lost seen seen_new first.members.voters.items old.members.voters.items lose is whole in
      subst (λ (k : Cluster). ShardsHaveMap m k.members.tables) (sym (untouched (subst (λ (k : Cluster). NoneLost k.members.voters.items) (sym gone.same) none))) (shards m up_still keeps)

-- the coordinator's log, and those of the nodes, stand
pub stand_gone : (first old new : Cluster) (reads : Option Files) (may_leave : Files → Type 0) → StaysInPlace first old → IsForgotten old new → Stands first.members.log reads may_leave → AreReady old.members.voters.items reads may_leave → AllStand new reads may_leave
stand_gone first old new reads may_leave stays gone chief nodes = subst (λ (k : Cluster). AllStand k reads may_leave) (sym gone.same)
    (record { chief = subst (λ (l : LogState). Stands l reads may_leave) (sym stays.members.log) chief; nodes = nodes })

-- what is given back where nodes were read anew behind it
pub given_back : (start first new read : Cluster) (requests again : List Request) → first ≡ record start { members = first.members } → first.members.tables.layout ≡ start.members.tables.layout → new.next_epoch ≡ first.next_epoch + 1
    → new.kept ≡ record first.kept { room = new.kept.room } → new.procs ≡ first.procs → new.members.tables.layout ≡ first.members.tables.layout → new.trace ≡ first.trace
    → read ≡ record new { members = read.members } → read.members.tables.layout ≡ new.members.tables.layout → again ≡ requests → IsGivenBack requests again start read
given_back start first new read requests again reminded layout next kept_is procs layout_now trace is layout_read same = record {
  same = same;
  low = omega (arith, next_is);
  high = omega (arith, next_is);
  kept = ap (λ (k : Cluster). k.kept) is ∙ kept_is ∙ ap (λ (k : Cluster). record k.kept { room = new.kept.room }) reminded ∙ ap (λ n. record start.kept { room = n }) (sym (ap (λ (k : Cluster). k.kept.room) is));
  procs = ap (λ (k : Cluster). k.procs) is ∙ procs ∙ ap (λ (k : Cluster). k.procs) reminded;
  layout = layout_read ∙ layout_now ∙ layout;
  trace = ap (λ (k : Cluster). k.trace) is ∙ trace ∙ ap (λ (k : Cluster). k.trace) reminded;
}
  where
    next_is : read.next_epoch ≡ start.next_epoch + 1
    next_is = ap (λ (k : Cluster). k.next_epoch) is ∙ next ∙ ap (λ (k : Cluster). k.next_epoch + 1) reminded

-- ---- behind one that was committed

has-last : (xs : List ℕ) (e x : ℕ) → has (xs ++ e ∷ []) x ≡ (e == x || has xs x)
has-last [] e x = refl
has-last (y ∷ xs) e x = ap (λ b. (y == x) || b) (has-last xs e x) ∙ swap (y == x) (e == x) (has xs x)
  where
    swap : (a b d : Bool) → (a || (b || d)) ≡ (b || (a || d))
    swap true true d = refl
    swap true false d = refl
    swap false b d = refl

pub history_grows : (c : Contents) (commit : Commit) → history_of (with_commit commit c) ≡ followed_by (history_of c) (epoch_of commit)
history_grows c commit = ap (λ es. record (history_of c) { epochs = es }) (map-append epoch_of c.commits (commit ∷ []))

pub map_grows : (c : Contents) (commit : Commit) → map_in (with_commit commit c) ≡ rows_after c.setting.tree (map_in c) commit.dones
map_grows c commit = ap (map_of c.setting.tree) (history_grows c commit) ∙ (follows c.setting.tree (history_of c) (epoch_of commit)).rows

few_pass : {X : Type 0} (p : X → Bool) (xs : List X) → length (filter p xs) ≤ length xs
few_pass p xs = (let both = length-filter_both p (λ x. not (p x)) (λ x. refl) xs in omega (arith, both))

-- before the commit entry
module _ (requests : List Request) (first old : Cluster) (dones : List Done) (before : List Posted) (rests : Rests first before) (may : MayTurn first requests) (stays : StaysInPlace first old)
    (each : IsEpochOf requests (record { number = first.next_epoch; dones = dones })) where
  keeps_below : KeepsBelow old.kept first.next_epoch
  keeps_below = room_keeps first.kept old.kept first.next_epoch stays.kept rests.keeps

  still_unkept : AllByRecursion (λ (r : Request). done_of r.id old.kept.dones ≡ None) requests
  still_unkept = subst (λ ds. AllByRecursion (λ (r : Request). done_of r.id ds ≡ None) requests) (sym (ap (λ (n : Keeping). n.dones) stays.kept)) may.unkept

  pub may_be_kept : MayFollow old.kept dones
  may_be_kept = may_follow requests first.next_epoch dones each may.distinct old.kept keeps_below still_unkept

  pub are_few : length dones < 2 ^ 32
  are_few = (
      let same = as_many requests first.next_epoch dones each may.distinct in
      let few = may.few in
      omega (arith, same, few))

  pub are_of_epoch : AreOf old.next_epoch dones
  are_of_epoch = subst (λ n. AreOf n dones) (sym stays.next) (fit_all (λ (d : Done). d.epoch ≡ first.next_epoch) None dones (All-from_recursion _ dones each.numbered))

module _ (requests : List Request) (first old new : Cluster) (dones : List Done) (trace : Traced) (before sent : List Posted) (rests : Rests first before) (may : MayTurn first requests) (below : first.next_epoch < epochs_end) (stays : StaysInPlace first old)
    (each : IsEpochOf requests (record { number = first.next_epoch; dones = dones })) (ended : HasEnded dones trace old new)
    (more : (earlier : Option ℕ) (added : List Done) → HoldsKept old.kept earlier added → NeverFall (added ++ dones) → HoldsKept new.kept earlier (added ++ dones)) where
  keeps : KeepsBelow old.kept first.next_epoch
  keeps = keeps_below requests first old dones before rests may stays each

  unkept : AllByRecursion (λ (r : Request). done_of r.id old.kept.dones ≡ None) requests
  unkept = still_unkept requests first old dones before rests may stays each

  pub next_is : new.next_epoch ≡ first.next_epoch + 1
  next_is = ended.next ∙ ap (λ n. n + 1) stays.next

  layout_is : new.members.tables.layout ≡ first.members.tables.layout
  layout_is = ended.layout ∙ stays.members.tables.layout

  kept_then : new.kept.dones ≡ kept_of first.kept.keep (first.kept.dones ++ dones)
  kept_then = kept_now requests first.next_epoch dones each may.distinct old.kept keeps new.kept ended.keep more ∙ ap (λ (n : Keeping). kept_of n.keep (n.dones ++ dones)) stays.kept

  floor_then : new.kept.floor ≡ floor_of first.kept.keep first.kept.floor (first.kept.dones ++ dones)
  floor_then = floor_now requests first.next_epoch dones each may.distinct old.kept keeps new.kept ended.keep more ∙ ap (λ (n : Keeping). floor_of n.keep n.floor (n.dones ++ dones)) stays.kept

  few_then : length new.kept.dones ≤ length first.kept.dones + length requests
  few_then =
      let same = as_many requests first.next_epoch dones each may.distinct in
      let passed = few_pass (is_held first.kept.keep (first.kept.dones ++ dones)) (first.kept.dones ++ dones) in
      omega (arith, same, passed, ap (length {A = Done}) kept_then, length-append first.kept.dones dones)

  committed_above : (e : ℕ) → (chief_of new.members.chief).committed e ≡ true → old.members.tables.layout.base_epoch < e
  committed_above e is = by_test (old.next_epoch == e) refl
    where
      above_old : MayStop old.members
      above_old = stops_still first.members old.members stays.members rests.stops

      by_test : (b : Bool) → (old.next_epoch == e) ≡ b → old.members.tables.layout.base_epoch < e
      by_test true same =
          let here : old.next_epoch ≡ e = grind (arith, nat_tests) in
          let b : old.members.tables.layout.base_epoch < first.next_epoch = subst (λ (l : Layout). l.base_epoch < first.next_epoch) (sym stays.members.tables.layout) rests.base in
          let n = stays.next in
          omega (arith, here, b, n)
      by_test false other = above_old.read.above e (ap (λ b. b || (chief_of old.members.chief).committed e) (sym other) ∙ sym (ended.committed.committed e) ∙ is)

  pub rests_ended : AreAtRest new.next_epoch sent new.members → Rests new sent
  rests_ended rest = record {
    keeps = subst (λ n. KeepsBelow new.kept n) (sym next_is) (keeps_on requests first.next_epoch dones each may.distinct old.kept keeps new.kept ended.keep more unkept);
    first = omega (arith, next_is);
    end = omega (arith, next_is, below);
    base = subst (λ (l : Layout). l.base_epoch < new.next_epoch) (sym layout_is) (let b = rests.base in omega (arith, next_is, b));
    partitions = subst (λ (l : Layout). l.partitions ≤ most_partitions) (sym layout_is) rests.partitions;
    rest = rest;
    unspent = ended.log_unspent;
    stops = record {
      files = in_files_still old.members.tables.layout new.members.tables.layout old.members.voters.items new.members.voters.items ended.layout ended.places (stops_still first.members old.members stays.members rests.stops).files;
      read = can_still old.members new.members ended.layout committed_above (stops_still first.members old.members stays.members rests.stops).read;
    };
  }

  -- and then nodes were read anew
  pub committed_one : (start read : Cluster) (workers attempts : ℕ) (m : Rows) → first ≡ record start { members = first.members } → first.members.tables.layout ≡ start.members.tables.layout → ShardsHaveMap m start.members.tables
      → read ≡ record new { members = read.members } → ((rows : Rows) → ShardsHaveMap rows start.members.tables → IsTraceOf (beginning_at first rows requests workers attempts) first.next_epoch dones trace) → HasCommittedOne requests workers attempts start read
  committed_one start read workers attempts m reminded layout had is traced_so = record {
    m = m;
    had = had;
    turned = λ rows has. record {
      dones = dones;
      trace = trace;
      number = first.next_epoch;
      next = ap (λ (k : Cluster). k.next_epoch) is ∙ next_is;
      trace_is = ap (λ (k : Cluster). option_map traced k.trace) is ∙ ended.trace_is;
      traced = subst (λ b. IsTraceOf b first.next_epoch dones trace)
          (ap (λ ps. record { procs = ps; opening = rows; requests = requests; partitions = first.members.tables.layout.partitions; workers = workers; attempts = attempts }) (ap (λ (k : Cluster). k.procs) reminded)
          ∙ ap (λ (l : Layout). record { procs = start.procs; opening = rows; requests = requests; partitions = l.partitions; workers = workers; attempts = attempts }) layout) (traced_so rows has);
      kept = ap (λ (k : Cluster). k.kept.dones) is ∙ kept_then ∙ ap (λ (k : Cluster). kept_of k.kept.keep (k.kept.dones ++ dones)) reminded;
    };
    next = ap (λ (k : Cluster). k.next_epoch) is ∙ next_is ∙ ap (λ (k : Cluster). k.next_epoch + 1) reminded;
    few = (
        let few = few_then in
        omega (arith, few, ap (λ (k : Cluster). length {A = Done} k.kept.dones) is, ap (λ (k : Cluster). length {A = Done} k.kept.dones) reminded));
  }

  -- where files are told: d has the prepared entries of the epoch
  module _ (c d : Contents) (stands : StandsAt c first) (only : AddsOnlyPrepared c d) where
    abbrev commit : Commit
    commit = commit_of first.next_epoch dones

    abbrev e : Epoch
    e = record { number = first.next_epoch; dones = dones }

    abbrev after : Contents
    after = with_commit commit d

    grown_history : history_of after ≡ followed_by (history_of c) e
    grown_history = history_grows d commit ∙ ap (λ h. followed_by h e) (same_history c d only)

    was : BelongsTo d old
    was = belongs_still c d first old only stays.procs stays.base stays.kept stays.members stands.belongs

    pub belongs_ended : BelongsTo after new
    belongs_ended = record {
      procs = ended.procs ∙ was.procs;
      dones = kept_then ∙ ap (λ n. kept_of n (first.kept.dones ++ dones)) stands.belongs.keep ∙ ap (λ ds. kept_of (history_of c).keep (ds ++ dones)) stands.belongs.dones
          ∙ sym (follows c.setting.tree (history_of c) e).held ∙ ap kept (sym grown_history);
      floor = floor_then ∙ ap (λ n. floor_of n first.kept.floor (first.kept.dones ++ dones)) stands.belongs.keep ∙ ap (λ f. floor_of (history_of c).keep f (first.kept.dones ++ dones)) stands.belongs.floor
          ∙ ap (λ ds. floor_of (history_of c).keep (floor (history_of c)) (ds ++ dones)) stands.belongs.dones ∙ sym (follows c.setting.tree (history_of c) e).forgotten ∙ ap floor (sym grown_history);
      keep = ended.keep ∙ was.keep;
      layout = ended.layout ∙ was.layout;
      base = was.base ∙ ap (λ (b : Vec (List (RowKey × Value))). joined b.items) (sym ended.base);
      chief = record { file = ended.log_file ∙ was.chief.file; kind = ended.log_kind ∙ was.chief.kind };
      logs = λ n now there. (let log = logs_still d old.members.voters.items new.members.voters.items ended.places was.logs n now there in record { file = log.file; kind = log.kind });
      held = λ n now there. (let before_it = ended.places n now there in subst (λ (h : Vec Bool). HeldBy d.setting.entry.layout n h.items) (sym before_it.2.held) (was.held n before_it.0 before_it.1));
      commits = λ x. ended.committed.committed x ∙ ap (λ n. (n == x) || (chief_of old.members.chief).committed x) stays.next ∙ ap (λ b. (first.next_epoch == x) || b) (was.commits x)
          ∙ sym (has-last (commit_epochs d.commits) first.next_epoch x) ∙ ap (λ es. has es x) (sym (map-append (λ (m : Commit). m.epoch) d.commits (commit ∷ [])));
    }

    pub stands_ended : IsBehindAll d (first.next_epoch + 1) → HaveMap (rows_after c.setting.tree (map_in c) dones) new.members.tables → StandsAt after new
    stands_ended behind has_map = record {
      belongs = belongs_ended;
      map = subst (λ (m : Rows). HaveMap m new.members.tables) (sym map_is) has_map;
      next = subst (IsBehindAll after) (sym next_is) (behind_commit d commit behind);
    }
      where
        map_is : map_in after ≡ rows_after c.setting.tree (map_in c) dones
        map_is = map_grows d commit ∙ ap (λ (s : Setting). rows_after s.tree (map_in d) dones) only.setting ∙ ap (λ m. rows_after c.setting.tree m dones) (same_map c d only)
