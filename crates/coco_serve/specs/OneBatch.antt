-- What is committed and said of one batch, and what is seen meanwhile.
use Rattle.std.specs.Prelude.{◌≡◌, ◌⊎◌, ⊤, ℕ, ◌+◌, List, take, Option, Some, Result, Ok, Err, OnOk}
use Rattle.std.specs.Io.KnownBytes.{append_known}
use Rattle.coco_append.specs.Gaining.{RestsOn}
use Rattle.coco_ast.specs.History.{kept}
use Rattle.coco_batches.specs.Answering.{held_texts}
use Rattle.coco_batches.specs.declared.batch.Batch.{Batch}
use Rattle.coco_cluster.specs.Around.{IsTaken}
use Rattle.coco_cluster.specs.Standing.{IsBehindAll, StandsAt}
use Rattle.coco_cluster.specs.Turning.{IsStoreOf, RestsWithout, ShowsHistory, epochs_of}
use Rattle.coco_cluster.specs.Writing.{WritesLogs}
use Rattle.coco_cluster.specs.declared.cluster.Cluster.{Cluster}
use Rattle.coco_host.specs.Files.{Files}
use Rattle.coco_host.specs.Moments.{SeesOnly}
use Rattle.coco_host.specs.declared.host.Host.{Ghosts as HostGhosts}
use Rattle.coco_store.specs.Contents.{Contents, history_of}
use Rattle.coco_serve.specs.Growth.{AddsWithin, GrowsByExecution, manner_of}
use Rattle.coco_serve.specs.Seen.{LeavesEither, ShowsBatch}
use Rattle.coco_cluster.specs.declared.stop.Stop.{Stop}
use Rattle.coco_cluster.specs.declared.stop.Stop.TheVariants as stop
use Rattle.coco_serve.specs.declared.bounds.RunBounds.{RunBounds}

-- the answers of a batch behind which the store has these contents
abbrev pub batch_texts : Contents → Batch → List ℕ
batch_texts d batch = held_texts (kept (history_of d)) batch.answers.items

-- a front of these texts is said
abbrev pub SaysPart : List ℕ → Option (List ℕ) → Option (List ℕ) → Type 0
SaysPart texts before now = (k : ℕ) × (now ≡ append_known before (take k texts))

-- how a batch ends, by its answer: committed and said whole; committed, and the saying broke off; or its turn failed, and the one store or the other is
-- left, in which no entry is of this epoch or a later one. Memory may run out at either place; no file of such a store is refused when it is read anew
abbrev pub BatchEnds : Contents → Contents → ℕ → Cluster → List ℕ → Option (List ℕ) → Option (List ℕ) → Option Files → (Files → Type 0) → Result (Unit {0}) Stop → Type 0
BatchEnds c d end after texts before now reads may_leave (Ok x) = RestsOn d reads may_leave × StandsAt d after × (now ≡ append_known before texts)
BatchEnds c d end after texts before now reads may_leave (Err stop.Read) = ⊥
BatchEnds c d end after texts before now reads may_leave (Err stop.Say) = RestsOn d reads may_leave × SaysPart texts before now
BatchEnds c d end after texts before now reads may_leave (Err stop.Disk) = LeavesEither c.setting (history_of c) (history_of d) end before may_leave × (now ≡ before)
BatchEnds c d end after texts before now reads may_leave (Err (stop.NotAStore file at)) = ⊥
BatchEnds c d end after texts before now reads may_leave (Err stop.Unreachable) = ⊥
BatchEnds c d end after texts before now reads may_leave (Err stop.EpochsUsedUp) = ⊥
BatchEnds c d end after texts before now reads may_leave (Err stop.NoMemory) =
    LeavesEither c.setting (history_of c) (history_of d) end before may_leave × (now ≡ before) ⊎ RestsOn d reads may_leave × SaysPart texts before now

-- the store has grown by a batch, whose epoch, if it has one, has this number, before which few were skipped, and whose answers are said behind it. At each moment there is the
-- store of before with nothing said, or the grown one with a front of the answers, and no entry is of a later epoch; and behind it the other files are as they were
pub record WorksOffBatch {H : Type 0} (frame : HostGhosts H)
    (result : Result (Unit {0}) Stop) (batch : Batch) (bounds : RunBounds) (c : Contents) (next spare : ℕ) (after : Cluster) (old new : H) : Type 0 where
  pub d : Contents
  pub setting : d.setting ≡ c.setting
  pub grows : GrowsByExecution (manner_of c.setting bounds) (history_of c) batch.fresh (history_of d)
  pub number : ℕ
  pub taken : IsTaken next number spare
  pub numbers : AddsWithin next (number + epochs_of batch.fresh) spare (history_of c) (history_of d)
  pub below : IsBehindAll d (number + epochs_of batch.fresh)
  pub next_is : OnOk result (after.next_epoch ≡ number + epochs_of batch.fresh)
  pub moments : SeesOnly frame.moment frame.observed old new (ShowsBatch c.setting (history_of c) (history_of d) (number + 1) (frame.said old) (batch_texts d batch))
  pub others : WritesLogs c.setting (frame.reads old) (frame.reads new) (frame.may_leave old) (frame.may_leave new)
  pub ends : BatchEnds c d (number + 1) after (batch_texts d batch) (frame.said old) (frame.said new) (frame.reads new) (frame.may_leave new) result

-- how a batch ends that isn't committed: where its turn gave up, or found no number, the host rests on the store of before, but for prepared entries, and none is of this epoch or a later one.
-- No file of such a store is refused
abbrev pub RefusedEnds : Contents → ℕ → Option Files → (Files → Type 0) → Result (Unit {0}) Stop → Type 0
RefusedEnds c end reads may_leave (Ok x) = ⊥
RefusedEnds c end reads may_leave (Err stop.Read) = ⊥
RefusedEnds c end reads may_leave (Err stop.Say) = ⊥
RefusedEnds c end reads may_leave (Err stop.Disk) = ⊤
RefusedEnds c end reads may_leave (Err (stop.NotAStore file at)) = ⊥
RefusedEnds c end reads may_leave (Err stop.Unreachable) = RestsWithout c end reads may_leave
RefusedEnds c end reads may_leave (Err stop.EpochsUsedUp) = RestsWithout c end reads may_leave
RefusedEnds c end reads may_leave (Err stop.NoMemory) = ⊤

-- nothing of a batch is committed or said. At each moment, and behind it, there is the store of before, in which no entry is of a later epoch than the one tried last; and behind it the other
-- files are as they were
pub record IsRefused {H : Type 0} (frame : HostGhosts H)
    (result : Result (Unit {0}) Stop) (c : Contents) (next spare : ℕ) (old new : H) : Type 0 where
  pub number : ℕ
  pub taken : IsTaken next number spare
  pub moments : SeesOnly frame.moment frame.observed old new (ShowsHistory c.setting (history_of c) (number + 1) (frame.said old))
  pub left : (bytes : List ℕ) → frame.said old ≡ Some bytes → (image : Files) → frame.may_leave new image → IsStoreOf c.setting (history_of c) (number + 1) image
  pub others : WritesLogs c.setting (frame.reads old) (frame.reads new) (frame.may_leave old) (frame.may_leave new)
  pub quiet : frame.said new ≡ frame.said old
  pub ends : RefusedEnds c number (frame.reads new) (frame.may_leave new) result
