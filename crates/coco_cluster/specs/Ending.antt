-- The end of an epoch, which is committed or was given up.
use Rattle.std.specs.Prelude.{◌≡◌, ◌⊎◌, ℕ, ◌+◌, false, List, Option, Some, Result, OnOk}
use Rattle.std.specs.Option.{option_map}
use Rattle.coco_append.specs.Gaining.{RestsOn, ShowsEither}
use Rattle.coco_chief.specs.Shown.{chief_of}
use Rattle.coco_entry.specs.declared.commit.Commit.{Commit}
use Rattle.coco_finish.specs.declared.tables.NodeTables.{NodeTables}
use Rattle.coco_host.specs.Files.{Files}
use Rattle.coco_host.specs.Moments.{Observation, SeesOnly}
use Rattle.coco_host.specs.declared.host.Host.{Ghosts as HostGhosts}
use Rattle.coco_parallel.specs.Traces.{Traced, traced}
use Rattle.coco_settle.specs.Settling.{HasCommitted}
use Rattle.coco_store.specs.Contents.{Contents, IsGoodStore}
use Rattle.coco_store.specs.Laws.{with_commit}
use Rattle.coco_types.specs.declared.call.Done.{Done}
use Rattle.coco_vote.specs.Taking.{KeepPlaces}
use Rattle.coco_cluster.specs.Writing.{WritesLogs}
use Rattle.coco_cluster.specs.declared.cluster.Cluster.{Cluster}

-- the number of the epoch is used, and only the rows of the tables have changed
pub record IsForgotten (old new : Cluster) : Type 0 where
  pub next : new.next_epoch ≡ old.next_epoch + 1
  pub tables : NodeTables
  pub layout : tables.layout ≡ old.members.tables.layout
  pub behind : tables.behind ≡ old.members.tables.behind
  pub same : new ≡ record old { next_epoch = new.next_epoch; members = record old.members { tables = tables } }

-- The cluster has the trace of the epoch, which is the last one that its coordinator knows as committed, and the next number comes next. What else belongs to its store is as it was.
pub record HasEnded (dones : List Done) (trace : Traced) (old new : Cluster) : Type 0 where
  pub next : new.next_epoch ≡ old.next_epoch + 1
  pub trace_is : option_map traced new.trace ≡ Some trace
  pub procs : new.procs ≡ old.procs
  pub base : new.base ≡ old.base
  pub keep : new.kept.keep ≡ old.kept.keep
  pub layout : new.members.tables.layout ≡ old.members.tables.layout
  pub log_file : new.members.log.file ≡ old.members.log.file
  pub log_kind : new.members.log.kind ≡ old.members.log.kind
  pub log_unspent : new.members.log.spent ≡ false
  pub places : KeepPlaces old.members.voters.items new.members.voters.items
  pub committed : HasCommitted old.next_epoch (chief_of old.members.chief) (chief_of new.members.chief)

-- a good store with the contents of before, or with the commit entry besides
abbrev pub HasOneOf : Contents → Commit → Files → Type 0
HasOneOf c commit files = IsGoodStore files c ⊎ IsGoodStore files (with_commit commit c)

-- The host rests on the contents with the commit entry, where the call succeeded. At each moment of it, and behind it whatever it answered, all that a crash may leave has the contents
-- of before or those; and the other files are as they were.
pub record Commits {T E H : Type 0} (frame : HostGhosts H)
    (result : Result T E) (c : Contents) (commit : Commit) (old new : H) : Type 0 where
  pub ok : OnOk result (RestsOn (with_commit commit c) (frame.reads new) (frame.may_leave new))
  pub moments : SeesOnly frame.moment frame.observed old new (ShowsEither c (with_commit commit c) (frame.said old))
  pub left : (bytes : List ℕ) → frame.said old ≡ Some bytes → (image : Files) → frame.may_leave new image → HasOneOf c commit image
  pub others : WritesLogs c.setting (frame.reads old) (frame.reads new) (frame.may_leave old) (frame.may_leave new)
