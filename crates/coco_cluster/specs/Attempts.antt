-- What comes of an attempt at an epoch.
use Rattle.std.specs.Global.{Vec}
use Rattle.std.specs.Prelude.{◌≡◌, ◌⊎◌, ⊤, ℕ, ◌+◌, ◌≤◌, List, length, Option, None, Some, Result, Ok}
use Rattle.std.specs.Option.{option_map}
use Rattle.coco_append.specs.Gaining.{RestsOn}
use Rattle.coco_ast.specs.Keyed.{Rows}
use Rattle.coco_host.specs.Files.{Files}
use Rattle.coco_host.specs.Moments.{Observation, SeesOnly}
use Rattle.coco_host.specs.declared.host.Host.{Ghosts as HostGhosts}
use Rattle.coco_letters.specs.Around.{Around}
use Rattle.coco_members.specs.AtRest.{ShardsHaveMap}
use Rattle.coco_parallel.specs.Traces.{Traced, traced}
use Rattle.coco_store.specs.Contents.{Contents, history_of}
use Rattle.coco_types.specs.declared.call.Request.{Request}
use Rattle.coco_cluster.specs.Standing.{StandsAt}
use Rattle.coco_cluster.specs.Trying.{GivesUp, Keeps}
use Rattle.coco_cluster.specs.Turning.{AddsOnlyPrepared, Grown, HasTurned, IsStoreOf, ShowsStore}
use Rattle.coco_cluster.specs.Writing.{WritesLogs}
use Rattle.coco_cluster.specs.declared.cluster.Cluster.{Cluster}
use Rattle.coco_cluster.specs.declared.stop.Stop.{Stop}

-- ---- on every host

-- an attempt that was given up has used one number at most; the requests are there again, and what belongs to the store is as it was
pub record IsGivenBack (requests again : List Request) (old new : Cluster) : Type 0 where
  pub same : again ≡ requests
  pub low : old.next_epoch ≤ new.next_epoch
  pub high : new.next_epoch ≤ old.next_epoch + 1
  pub kept : new.kept ≡ record old.kept { room = new.kept.room }
  pub procs : new.procs ≡ old.procs
  pub layout : new.members.tables.layout ≡ old.members.tables.layout
  pub trace : new.trace ≡ old.trace

-- one that committed its epoch has the trace of it, and its Dones are kept
pub record HasCommittedOne (requests : List Request) (workers attempts : ℕ) (old new : Cluster) : Type 0 where
  pub m : Rows
  pub had : ShardsHaveMap m old.members.tables
  pub turned : (m : Rows) → ShardsHaveMap m old.members.tables → HasTurned requests workers attempts m old new
  pub next : new.next_epoch ≡ old.next_epoch + 1
  pub few : length new.kept.dones ≤ length old.kept.dones + length requests

abbrev pub Attempts : Option (Vec Request) → List Request → ℕ → ℕ → Cluster → Cluster → Type 0
Attempts (Some again) requests workers attempts old new = IsGivenBack requests again.items old new
Attempts None requests workers attempts old new = HasCommittedOne requests workers attempts old new

-- an attempt that was given up keeps the map of the shards
abbrev pub KeepsMap : Option (Vec Request) → Cluster → Cluster → Type 0
KeepsMap (Some again) old new = (m : Rows) → ShardsHaveMap m old.members.tables → ShardsHaveMap m new.members.tables
KeepsMap None old new = ⊤

-- it was given up for its cause
abbrev pub HasCause : Option (Vec Request) → Around → Around → Type 0
HasCause (Some again) a b = GivesUp a b
HasCause None a b = ⊤

-- ---- where files are told

-- the host rests on contents with prepared entries more, at which the cluster stands
pub record StandsOn (c : Contents) (k : Cluster) (reads : Option Files) (may_leave : Files → Type 0) : Type 0 where
  pub d : Contents
  pub only : AddsOnlyPrepared c d
  pub rests : RestsOn d reads may_leave
  pub stands : StandsAt d k

-- the epoch was given up, or failed before its commit entry: the history is the same
pub record KeepsOn {H : Type 0} (frame : HostGhosts H)
    (result : Result (Option (Vec Request)) Stop) (c : Contents) (old new : Cluster) (host host_new : H) : Type 0 where
  pub keeps : Keeps frame c (old.next_epoch + 1) host host_new
  pub again : (x : Option (Vec Request)) → result ≡ Ok x → ((rs : Vec Request) × (x ≡ Some rs)) × StandsOn c new (frame.reads host_new) (frame.may_leave host_new)

-- it was committed, or a fault leaves that open
pub record CommitsOn {H : Type 0} (frame : HostGhosts H)
    (result : Result (Option (Vec Request)) Stop) (requests : List Request) (workers attempts : ℕ) (c : Contents) (old new : Cluster) (host host_new : H) : Type 0 where
  pub d : Contents
  pub trace : Traced
  pub grown : Grown requests workers attempts old.next_epoch trace c d
  pub ok : (x : Option (Vec Request)) → result ≡ Ok x → (x ≡ None) × RestsOn d (frame.reads host_new) (frame.may_leave host_new) × StandsAt d new × (option_map traced new.trace ≡ Some trace) × (new.next_epoch ≡ old.next_epoch + 1)
  pub moments : SeesOnly frame.moment frame.observed host host_new (ShowsStore c.setting (history_of c) (history_of d) (old.next_epoch + 1) (frame.said host))
  pub left : (bytes : List ℕ) → frame.said host ≡ Some bytes → (image : Files) → frame.may_leave host_new image
      → IsStoreOf c.setting (history_of c) (old.next_epoch + 1) image ⊎ IsStoreOf c.setting (history_of d) (old.next_epoch + 1) image
  pub others : WritesLogs c.setting (frame.reads host) (frame.reads host_new) (frame.may_leave host) (frame.may_leave host_new)

abbrev pub AttemptsOn : {H : Type 0} → HostGhosts H
    → Result (Option (Vec Request)) Stop → List Request → ℕ → ℕ → Contents → Cluster → Cluster → H → H → Type 0
AttemptsOn frame result requests workers attempts c old new host host_new =
    KeepsOn frame result c old new host host_new
    ⊎ CommitsOn frame result requests workers attempts c old new host host_new
