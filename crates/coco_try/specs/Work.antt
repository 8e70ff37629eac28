-- What is committed of one batch of requests, and what is seen meanwhile.
use Rattle.std.specs.Prelude.{◌≡◌, ◌⊎◌, ⊤, ℕ, ◌+◌, ◌<◌, ◌≤◌, List, length, Option, Result, Ok, Err, OnOk}
use Rattle.std.specs.List.{AllByRecursion}
use Rattle.coco_types.specs.Limits.{epochs_end}
use Rattle.coco_types.specs.declared.call.Request.{Request}
use Rattle.coco_append.specs.Gaining.{RestsOn}
use Rattle.coco_ast.specs.Fitting.{Fits}
use Rattle.coco_ast.specs.Tree.{Procedures}
use Rattle.coco_cluster.specs.Around.{Around, IsTaken, SkipsFew, spare}
use Rattle.coco_cluster.specs.GivingUp.{AreGivenUp}
use Rattle.coco_cluster.specs.Standing.{IsBehindAll, StandsAt}
use Rattle.coco_cluster.specs.Turning.{ShowsStore, epochs_of}
use Rattle.coco_cluster.specs.Writing.{WritesLogs}
use Rattle.coco_cluster.specs.declared.cluster.Cluster.{Cluster}
use Rattle.coco_host.specs.Files.{Files}
use Rattle.coco_host.specs.Moments.{SeesOnly}
use Rattle.coco_host.specs.declared.host.Host.{Ghosts as HostGhosts}
use Rattle.coco_io.specs.Counts.{Rose}
use Rattle.coco_lines.specs.Classes.{Known, known_in, new_of}
use Rattle.coco_lines.specs.declared.class.Class.{Class}
use Rattle.coco_serve.specs.Faults.{Counts}
use Rattle.coco_serve.specs.Growth.{AddsWithin, GrowsByExecution, manner_of}
use Rattle.coco_serve.specs.OneBatch.{IsRefused}
use Rattle.coco_serve.specs.Seen.{LeavesEither}
use Rattle.coco_serve.specs.declared.bounds.RunBounds.{RunBounds}
use Rattle.coco_cluster.specs.declared.stop.Stop.{Stop}
use Rattle.coco_cluster.specs.declared.stop.Stop.TheVariants as stop
use Rattle.coco_store.specs.Contents.{Contents, history_of}
use Rattle.coco_try.specs.Growth.{AreClassesOf}
use Rattle.coco_try.specs.Report.{answered_in}
use Rattle.coco_try.specs.declared.one_part.Tally.{Tally}

-- each of these requests can be run
abbrev pub AllFit : Procedures → List Request → Type 0
AllFit procs = AllByRecursion (λ r. Fits procs r.call)

-- the new requests of a batch, and how many of its requests are new or same
pub record HasClasses (k : Known) (part : List Request) (fresh : List Request) (answered : ℕ) : Type 0 where
  pub classes : List Class
  pub are : AreClassesOf k part classes
  pub fresh_are : fresh ≡ new_of classes
  pub answered_are : answered ≡ answered_in classes

-- one of these requests is new
pub record HasNew (k : Known) (part : List Request) : Type 0 where
  pub classes : List Class
  pub are : AreClassesOf k part classes
  pub some : 0 < length (new_of classes)

-- no more than so many are counted
pub record IsFew (most : ℕ) (worked : Tally) : Type 0 where
  pub answered : worked.answered ≤ most
  pub epochs : worked.epochs ≤ most

-- these classes are counted
pub record IsCountOf (classes : List Class) (worked : Tally) : Type 0 where
  pub answered : worked.answered ≡ answered_in classes
  pub epochs : worked.epochs ≡ epochs_of (new_of classes)

-- how a batch ends whose epoch may be committed: it is, or its turn failed, and the one store or the other is left, in which no entry is of a later epoch
abbrev pub PartEnds : Contents → Contents → ℕ → Cluster → List Class → Option (List ℕ) → Option Files → (Files → Type 0) → Result Tally Stop → Type 0
PartEnds c d end after classes said reads may_leave (Ok worked) = RestsOn d reads may_leave × StandsAt d after × IsCountOf classes worked
PartEnds c d end after classes said reads may_leave (Err stop.Read) = ⊥
PartEnds c d end after classes said reads may_leave (Err stop.Say) = ⊥
PartEnds c d end after classes said reads may_leave (Err stop.Disk) = LeavesEither c.setting (history_of c) (history_of d) end said may_leave
PartEnds c d end after classes said reads may_leave (Err (stop.NotAStore file at)) = ⊥
PartEnds c d end after classes said reads may_leave (Err stop.Unreachable) = ⊥
PartEnds c d end after classes said reads may_leave (Err stop.EpochsUsedUp) = ⊥
PartEnds c d end after classes said reads may_leave (Err stop.NoMemory) = LeavesEither c.setting (history_of c) (history_of d) end said may_leave

-- the store has grown by a batch, whose epoch, if it has one, has this number, before which few were skipped. At each moment there is the store of before or the grown one, and no more is said
pub record WorksOffPart {H : Type 0} (frame : HostGhosts H)
    (result : Result Tally Stop) (part : List Request) (bounds : RunBounds) (c : Contents) (next spare : ℕ) (after : Cluster) (old new : H) : Type 0 where
  pub classes : List Class
  pub are : AreClassesOf (known_in (history_of c)) part classes
  pub d : Contents
  pub setting : d.setting ≡ c.setting
  pub grows : GrowsByExecution (manner_of c.setting bounds) (history_of c) (new_of classes) (history_of d)
  pub number : ℕ
  pub taken : IsTaken next number spare
  pub numbers : AddsWithin next (number + epochs_of (new_of classes)) spare (history_of c) (history_of d)
  pub below : IsBehindAll d (number + epochs_of (new_of classes))
  pub next_is : OnOk result (after.next_epoch ≡ number + epochs_of (new_of classes))
  pub moments : SeesOnly frame.moment frame.observed old new (ShowsStore c.setting (history_of c) (history_of d) (number + 1) (frame.said old))
  pub others : WritesLogs c.setting (frame.reads old) (frame.reads new) (frame.may_leave old) (frame.may_leave new)
  pub ends : PartEnds c d (number + 1) after classes (frame.said old) (frame.reads new) (frame.may_leave new) result

-- an answer without its counts
abbrev pub done_of : Result Tally Stop → Result (Unit {0}) Stop
done_of (Ok worked) = Ok tt
done_of (Err f) = Err f

-- nothing of the batch is committed, or it may be
abbrev pub ComesOfPart : {H : Type 0} (frame : HostGhosts H)
    → Result Tally Stop → List Request → RunBounds → Contents → ℕ → ℕ → Cluster → H → H → Type 0
ComesOfPart frame result part bounds c next spare after old new =
    IsRefused frame (done_of result) c next spare old new
    ⊎ WorksOffPart frame result part bounds c next spare after old new

-- a count rose where its fault is answered, and none moved where there is no fault; nodes are unreachable where four attempts were given up, and epochs are used up where there is no next
-- number, but for few that may have been skipped: either where one of the requests is new. Nothing is said, so the reply stream doesn't fail
abbrev pub CountsPart : Result Tally Stop → Known → List Request → ℕ → Around → Around → Counts → Counts → Type 0
CountsPart (Ok worked) k part next was now before after = after ≡ before
CountsPart (Err stop.Read) k part next was now before after = ⊥
CountsPart (Err stop.Say) k part next was now before after = ⊥
CountsPart (Err stop.Disk) k part next was now before after = Rose before.disk after.disk
CountsPart (Err (stop.NotAStore file at)) k part next was now before after = after ≡ before
CountsPart (Err stop.Unreachable) k part next was now before after = AreGivenUp 4 was now × HasNew k part
CountsPart (Err stop.EpochsUsedUp) k part next was now before after = SkipsFew next epochs_end 0 (spare was now) × HasNew k part
CountsPart (Err stop.NoMemory) k part next was now before after = ⊤
