-- What a turn makes of the store, and what is seen of it meanwhile.
use Rattle.std.specs.Prelude.{◌≡◌, ◌⊎◌, ℕ, ◌+◌, ◌≤◌, ⊤, List, [], ◌∷◌, ◌++◌, map, length, Option, None, Some, Result, Ok, Err, OnOk, nat_eq}
use Rattle.std.specs.List.{AllByRecursion, IsDistinct}
use Rattle.std.specs.Option.{option_map}
use Rattle.coco_types.specs.Limits.{most_batch_lines}
use Rattle.coco_types.specs.declared.call.Done.{Done}
use Rattle.coco_types.specs.declared.call.Request.{Request}
use Rattle.coco_host.specs.Files.{Files}
use Rattle.coco_host.specs.Moments.{Observation, SeesOnly}
use Rattle.coco_host.specs.declared.host.Host.{Ghosts as HostGhosts}
use Rattle.coco_append.specs.Gaining.{RestsOn}
use Rattle.coco_ast.specs.Fitting.{Fits}
use Rattle.coco_ast.specs.Growth.{GrowsBy}
use Rattle.coco_ast.specs.History.{AreAbove, Epoch, History, all_dones, done_of, followed_by, kept_of}
use Rattle.coco_ast.specs.Keyed.{Rows}
use Rattle.coco_append.specs.EpochEntries.{HasRoomFor}
use Rattle.coco_entry.specs.declared.prepared.Prepared.{Prepared}
use Rattle.coco_order.specs.Execution.{Beginning}
use Rattle.coco_store.specs.Contents.{Contents, IsGoodStore, history_of, map_in}
use Rattle.coco_store.specs.Rules.{Setting}
use Rattle.coco_cluster.specs.Around.{IsTaken}
use Rattle.coco_cluster.specs.Faults.{MayHaveCommitted}
use Rattle.coco_cluster.specs.Standing.{IsBehindAll, StandsAt}
use Rattle.coco_cluster.specs.Writing.{WritesLogs}
use Rattle.coco_parallel.specs.Traces.{IsTraceOf, Traced, traced}
use Rattle.coco_cluster.specs.declared.cluster.Cluster.{Cluster}
use Rattle.coco_cluster.specs.declared.stop.Stop.{Stop}
use Rattle.coco_cluster.specs.declared.stop.Stop.TheVariants as stop

-- requests that a cluster may run: they fit, and each has an id of its own that is neither kept nor forgotten
pub record MayTurn (k : Cluster) (requests : List Request) : Type 0 where
  pub fit : AllByRecursion (λ (r : Request). Fits k.procs r.call) requests
  pub distinct : IsDistinct nat_eq (map (λ (r : Request). r.id) requests)
  pub unkept : AllByRecursion (λ (r : Request). done_of r.id k.kept.dones ≡ None) requests
  pub above : AreAbove k.kept.floor (map (λ (r : Request). r.id) requests)
  pub few : length requests ≤ most_batch_lines

-- there is room for their Dones in a store without a keep number
abbrev pub HasRoom : Contents → List Request → Type 0
HasRoom c requests = HasRoomFor c.setting.entry.keep (length (all_dones (history_of c)) + length requests)

-- how many epochs these requests make
abbrev pub epochs_of : List Request → ℕ
epochs_of [] = 0
epochs_of (r ∷ rs) = 1

-- what an epoch of these requests begins with on contents, with so many workers and attempts at each request
abbrev pub beginning_on : Contents → List Request → ℕ → ℕ → Beginning
beginning_on c requests workers attempts =
    record { procs = c.setting.tree; opening = map_in c; requests = requests; partitions = c.setting.entry.layout.partitions; workers = workers; attempts = attempts }

-- the contents have grown by an epoch of this number: one Done for each request, in the order of commit, as this trace has them from the map before
pub record Grown (requests : List Request) (workers attempts epoch : ℕ) (trace : Traced) (c d : Contents) : Type 0 where
  pub setting : d.setting ≡ c.setting
  pub base : d.base ≡ c.base
  pub e : Epoch
  pub number : e.number ≡ epoch
  pub traced : IsTraceOf (beginning_on c requests workers attempts) epoch e.dones trace
  pub history : history_of d ≡ followed_by (history_of c) e
  pub grows : GrowsBy (history_of c) requests (history_of d)
  pub below : IsBehindAll d (epoch + 1)

-- a good store with this history, under this layout and its procedures, in which no entry is of this epoch or a later one
pub record IsStoreOf (s : Setting) (h : History) (end : ℕ) (files : Files) : Type 0 where
  pub contents : Contents
  pub setting : contents.setting ≡ s
  pub good : IsGoodStore files contents
  pub history : history_of contents ≡ h
  pub below : IsBehindAll contents end

-- seen at a moment: a good store with one history or the other, in which no entry is of this epoch or a later one, and no more said
pub record ShowsStore (s : Setting) (before after : History) (end : ℕ) (bytes : Option (List ℕ)) (seen : Observation) : Type 0 where
  pub store : IsStoreOf s before end seen.image ⊎ IsStoreOf s after end seen.image
  pub said : bytes ≡ Some seen.said

-- the store has grown by an epoch, where the turn succeeded, and the cluster has the trace of it; few numbers before the epoch's were skipped. At each moment, and behind the turn whatever it
-- answered, all that a crash may leave is a good store with the history of before or the grown one, in which no entry is of a later epoch; and behind it the other files are as they were
pub record Turns {H : Type 0} (frame : HostGhosts H)
    (result : Result (Unit {0}) Stop) (requests : List Request) (workers attempts spare : ℕ) (c : Contents) (before after : Cluster) (old new : H) : Type 0 where
  pub may : MayHaveCommitted result
  pub d : Contents
  pub trace : Traced
  pub number : ℕ
  pub taken : IsTaken before.next_epoch number spare
  pub grown : Grown requests workers attempts number trace c d
  pub ok : OnOk result (RestsOn d (frame.reads new) (frame.may_leave new) × StandsAt d after × (option_map traced after.trace ≡ Some trace) × (after.next_epoch ≡ number + 1))
  pub moments : SeesOnly frame.moment frame.observed old new (ShowsStore c.setting (history_of c) (history_of d) (number + 1) (frame.said old))
  pub left : (bytes : List ℕ) → frame.said old ≡ Some bytes → (image : Files) → frame.may_leave new image
      → IsStoreOf c.setting (history_of c) (number + 1) image ⊎ IsStoreOf c.setting (history_of d) (number + 1) image
  pub others : WritesLogs c.setting (frame.reads old) (frame.reads new) (frame.may_leave old) (frame.may_leave new)

-- the cluster is as it was, and its last turn committed no epoch
pub record IsUntraced (before after : Cluster) : Type 0 where
  pub procs : after.procs ≡ before.procs
  pub kept : after.kept ≡ before.kept
  pub members : after.members ≡ before.members
  pub base : after.base ≡ before.base
  pub next : after.next_epoch ≡ before.next_epoch
  pub trace : after.trace ≡ None

-- ---- a turn that commits nothing

-- prepared entries were added, and nothing else; so the history is the same
pub record AddsOnlyPrepared (c d : Contents) : Type 0 where
  pub earlier : d.earlier ≡ c.earlier
  pub setting : d.setting ≡ c.setting
  pub base : d.base ≡ c.base
  pub commits : d.commits ≡ c.commits
  pub prepared : (n : ℕ) → (more : List Prepared) × (d.prepared n ≡ c.prepared n ++ more)

-- the host rests on contents that have only prepared entries more, in which no entry is of this epoch or a later one
abbrev pub RestsWithout : Contents → ℕ → Option Files → (Files → Type 0) → Type 0
RestsWithout c end reads may_leave = (d : Contents) × AddsOnlyPrepared c d × IsBehindAll d end × RestsOn d reads may_leave

-- so it does where the turn gave up, or found no number
abbrev pub EndsWithout : Contents → ℕ → Option Files → (Files → Type 0) → Result (Unit {0}) Stop → Type 0
EndsWithout c end reads may_leave (Ok x) = ⊤
EndsWithout c end reads may_leave (Err stop.Read) = ⊥
EndsWithout c end reads may_leave (Err stop.Say) = ⊥
EndsWithout c end reads may_leave (Err stop.Disk) = ⊤
EndsWithout c end reads may_leave (Err (stop.NotAStore file at)) = ⊤
EndsWithout c end reads may_leave (Err stop.NoMemory) = ⊤
EndsWithout c end reads may_leave (Err stop.Unreachable) = RestsWithout c end reads may_leave
EndsWithout c end reads may_leave (Err stop.EpochsUsedUp) = RestsWithout c end reads may_leave

-- seen at a moment: a good store with this history, in which no entry is of this epoch or a later one, and no more said
abbrev pub ShowsHistory : Setting → History → ℕ → Option (List ℕ) → Observation → Type 0
ShowsHistory s h end bytes seen = IsStoreOf s h end seen.image × (bytes ≡ Some seen.said)

-- the turn committed nothing: there was nothing to do, or it failed before that. At each moment, and behind it, all that a crash may leave is a good store with the history of before, in which
-- no entry is of a later epoch than the one tried last, or of that one where it was given up; and behind it the other files are as they were
pub record KeepsHistory {H : Type 0} (frame : HostGhosts H)
    (result : Result (Unit {0}) Stop) (requests : List Request) (next spare : ℕ) (c : Contents) (old new : H) : Type 0 where
  pub number : ℕ
  pub taken : IsTaken next number spare
  pub ok : OnOk result (requests ≡ [])
  pub moments : SeesOnly frame.moment frame.observed old new (ShowsHistory c.setting (history_of c) (number + 1) (frame.said old))
  pub left : (bytes : List ℕ) → frame.said old ≡ Some bytes → (image : Files) → frame.may_leave new image → IsStoreOf c.setting (history_of c) (number + 1) image
  pub others : WritesLogs c.setting (frame.reads old) (frame.reads new) (frame.may_leave old) (frame.may_leave new)
  pub ends : EndsWithout c number (frame.reads new) (frame.may_leave new) result

-- ---- on every host

-- what an epoch of these requests begins with on a cluster whose shards have this map
abbrev pub beginning_at : Cluster → Rows → List Request → ℕ → ℕ → Beginning
beginning_at k m requests workers attempts =
    record { procs = k.procs; opening = m; requests = requests; partitions = k.members.tables.layout.partitions; workers = workers; attempts = attempts }

-- the cluster has run an epoch from this map: it has its trace, its Dones among the kept ones, and the map behind it
pub record HasTurned (requests : List Request) (workers attempts : ℕ) (m : Rows) (before after : Cluster) : Type 0 where
  pub dones : List Done
  pub trace : Traced
  pub number : ℕ
  pub next : after.next_epoch ≡ number + 1
  pub trace_is : option_map traced after.trace ≡ Some trace
  pub traced : IsTraceOf (beginning_at before m requests workers attempts) number dones trace
  pub kept : after.kept.dones ≡ kept_of before.kept.keep (before.kept.dones ++ dones)
