-- What a run makes of the store in hand and of the bytes that its source gives.
use Rattle.std.specs.Prelude.{◌≡◌, ◌⊎◌, ⊤, ℕ, ◌+◌, ◌-◌, ◌<◌, ◌≤◌, List, [], ◌∷◌, ◌++◌, length, take, Option, Some, Result, Ok, Err}
use Rattle.std.specs.Io.KnownBytes.{append_known}
use Rattle.coco_types.specs.Limits.{epochs_end, most_input_bytes}
use Rattle.coco_append.specs.Gaining.{RestsOn}
use Rattle.coco_ast.specs.History.{History}
use Rattle.coco_cluster.specs.Around.{Around, IsLater, SkipsFew, spare}
use Rattle.coco_cluster.specs.GivingUp.{AreGivenUp}
use Rattle.coco_cluster.specs.Standing.{IsBehindAll, StandsAt}
use Rattle.coco_cluster.specs.Writing.{WritesLogs}
use Rattle.coco_cluster.specs.declared.cluster.Cluster.{Cluster}
use Rattle.coco_cluster.specs.declared.stop.Stop.{Stop}
use Rattle.coco_cluster.specs.declared.stop.Stop.TheVariants as stop
use Rattle.coco_host.specs.Files.{Files}
use Rattle.coco_host.specs.Moments.{Observation, SeesOnly}
use Rattle.coco_host.specs.declared.host.Host.{Ghosts as HostGhosts}
use Rattle.coco_io.specs.Counts.{Rose}
use Rattle.coco_lines.specs.Batches.{AreBatches, Batch, joined}
use Rattle.coco_lines.specs.Classes.{AreClasses, known_in, new_of}
use Rattle.coco_lines.specs.Lines.{Line, ended_lines_of, lines_of}
use Rattle.coco_lines.specs.Reads.{Gives, IsSpent, SourceMoment}
use Rattle.coco_lines.specs.declared.class.Class.{Class}
use Rattle.coco_store.specs.Contents.{Contents, history_of}
use Rattle.coco_store.specs.Rules.{Setting}
use Rattle.coco_serve.specs.Growth.{AddsWithin, AreFirstBatches, HaveSize, IsGrown, Manner, answers_of, manner_of}
use Rattle.coco_serve.specs.Seen.{IsServed, LeavesEither}
use Rattle.coco_serve.specs.declared.bounds.RunBounds.{RunBounds}

-- ---- causes

-- what a run sees and changes beside its store, at one moment: its source, the counts of faults, and what the net and the power tell
pub record Outside : Type 0 where
  pub source : SourceMoment
  pub source_faults : ℕ
  pub say_faults : ℕ
  pub disk_faults : ℕ
  pub around : Around

-- in sixteenths, how many numbers may be skipped in a run
abbrev pub spare_of : Outside → Outside → ℕ
spare_of before after = spare before.around after.around

-- why a run ended so, by the bytes that the source gave; nodes are unreachable where from some moment of the run on four attempts were given up, one behind the other; epochs are used up
-- where the numbers from the next one on reach the end, by one for each line and few that may be skipped. Where a node's file was refused, no
-- count of the host's rose. Want of memory needs no cause
abbrev pub HasCause : ℕ → List ℕ → Outside → Outside → Result (Unit {0}) Stop → Type 0
HasCause next bytes before after (Ok x) = IsSpent after.source
HasCause next bytes before after (Err stop.Read) = Rose before.source_faults after.source_faults ⊎ (length bytes ≡ most_input_bytes)
HasCause next bytes before after (Err stop.Say) = Rose before.say_faults after.say_faults
HasCause next bytes before after (Err stop.Disk) = Rose before.disk_faults after.disk_faults
HasCause next bytes before after (Err (stop.NotAStore file at)) = (after.say_faults ≡ before.say_faults) × (after.disk_faults ≡ before.disk_faults)
HasCause next bytes before after (Err stop.Unreachable) = (m : Around) × IsLater before.around m × AreGivenUp 4 m after.around
HasCause next bytes before after (Err stop.EpochsUsedUp) = SkipsFew next epochs_end (length (lines_of bytes)) (spare_of before after)
HasCause next bytes before after (Err stop.NoMemory) = ⊤

-- ---- batches and answers

-- a history grown by the first batches of these bytes, the epochs that it has more numbered from `next` on and below `end`
pub record ServedSoFar (m : Manner) (opening : History) (next spare size : ℕ) (bytes : List ℕ) : Type 0 where
  pub batches : List Batch
  pub classes : List (List Class)
  pub history : History
  pub grown : IsGrown m opening batches classes history
  pub end : ℕ
  pub numbers : AddsWithin next end spare opening history
  pub first : AreFirstBatches size bytes batches

-- they are all batches of the lines
abbrev pub AreAll : ℕ → List ℕ → List Batch → Type 0
AreAll size bytes batches = (lines_of bytes ≡ joined batches) × AreBatches size batches

-- they are all whole batches of the lines that each end in a byte 10
pub record AreAllWhole (size : ℕ) (bytes : List ℕ) (batches : List Batch) : Type 0 where
  pub whole : HaveSize size batches
  pub others : List Line
  pub lines : ended_lines_of bytes ≡ joined batches ++ others
  pub few : length others < size

-- the answers of all these batches are said
abbrev pub SaysAll : Option (List ℕ) → Option (List ℕ) → History → List (List Class) → Type 0
SaysAll before now h classes = now ≡ append_known before (answers_of h classes)

-- those of all but the last one, and a front of the last one's
pub record SaysUpTo (before now : Option (List ℕ)) (h : History) (classes : List (List Class)) : Type 0 where
  pub part : ℕ
  pub says : now ≡ append_known before (take part (answers_of h classes))
  pub most : length (answers_of h (take (length classes - 1) classes)) ≤ part

-- ---- what is left

-- the files read as a store of this history in this setting, in which no entry is of this epoch or a later one, and so does all that a crash may leave
abbrev pub RestsAt : Setting → History → ℕ → Option Files → (Files → Type 0) → Type 0
RestsAt s h end reads may_leave = (d : Contents) × (d.setting ≡ s) × (history_of d ≡ h) × IsBehindAll d end × RestsOn d reads may_leave

-- some first batches are said, all of them or all but one; what a crash may leave is a store of their history or of the whole one, and no entry in it is of a later epoch than the one
-- that was tried last
pub record LeavesLast (s : Setting) (bounds : RunBounds) (opening : History) (next spare : ℕ) (batches : List Batch) (classes : List (List Class)) (whole : History) (Says : History → List (List Class) → Type 0)
    (now : Option (List ℕ)) (may_leave : Files → Type 0) : Type 0 where
  pub count : ℕ
  pub last : (length batches ≡ count) ⊎ (length batches ≡ count + 1)
  pub history : History
  pub grown : IsGrown (manner_of s bounds) opening (take count batches) (take count classes) history
  pub number : ℕ
  pub numbers : AddsWithin next number spare opening history
  pub says : Says history (take count classes)
  pub left : LeavesEither s history whole (number + 1) now may_leave

-- the next batch has a new request
pub record HasNext (m : Manner) (opening : History) (next spare size : ℕ) (bytes : List ℕ) (p : ServedSoFar m opening next spare size bytes) : Type 0 where
  pub batch : Batch
  pub classes : List Class
  pub first : AreFirstBatches size bytes (p.batches ++ batch ∷ [])
  pub are : AreClasses m.procs (known_in p.history) batch classes
  pub some : 0 < length (new_of classes)

-- as many epochs were added as there were numbers for, but for few that may be skipped, and the next batch has a new request
pub record AreUsedUp (m : Manner) (opening : History) (next spare size : ℕ) (bytes : List ℕ) (p : ServedSoFar m opening next spare size bytes) : Type 0 where
  pub end : SkipsFew next epochs_end (length p.numbers.added) spare
  pub has_next : HasNext m opening next spare size bytes p

-- ---- how a run ends

-- by its ending: an input that was read to its end is committed and answered whole; after a fault of reading so are all whole batches; a fault of saying
-- leaves all batches committed, the last one said in part; where nodes are unreachable, or epochs used up, all that is committed is said, and the next batch
-- has a new request; and after a fault of the disk, or out of memory, one batch more may be committed than is said. No file of such a store is refused
abbrev pub RunEnds : (c : Contents) → (next spare : ℕ) → (bounds : RunBounds) → (bytes : List ℕ) → ServedSoFar (manner_of c.setting bounds) (history_of c) next spare bounds.size bytes → Option (List ℕ) → Option (List ℕ) → Option Files → (Files → Type 0) → Result (Unit {0}) Stop → Type 0
RunEnds c next spare bounds bytes p before now reads may_leave (Ok x) = AreAll bounds.size bytes p.batches × RestsAt c.setting p.history p.end reads may_leave × SaysAll before now p.history p.classes
RunEnds c next spare bounds bytes p before now reads may_leave (Err stop.Read) = AreAllWhole bounds.size bytes p.batches × RestsAt c.setting p.history p.end reads may_leave × SaysAll before now p.history p.classes
RunEnds c next spare bounds bytes p before now reads may_leave (Err stop.Say) = RestsAt c.setting p.history p.end reads may_leave × SaysUpTo before now p.history p.classes
RunEnds c next spare bounds bytes p before now reads may_leave (Err stop.Disk) =
    LeavesLast c.setting bounds (history_of c) next spare p.batches p.classes p.history (SaysAll before now) now may_leave
RunEnds c next spare bounds bytes p before now reads may_leave (Err (stop.NotAStore file at)) = ⊥
RunEnds c next spare bounds bytes p before now reads may_leave (Err stop.Unreachable) =
    RestsAt c.setting p.history p.end reads may_leave × SaysAll before now p.history p.classes × HasNext (manner_of c.setting bounds) (history_of c) next spare bounds.size bytes p
RunEnds c next spare bounds bytes p before now reads may_leave (Err stop.EpochsUsedUp) =
    RestsAt c.setting p.history p.end reads may_leave × SaysAll before now p.history p.classes × AreUsedUp (manner_of c.setting bounds) (history_of c) next spare bounds.size bytes p
RunEnds c next spare bounds bytes p before now reads may_leave (Err stop.NoMemory) =
    LeavesLast c.setting bounds (history_of c) next spare p.batches p.classes p.history (SaysUpTo before now) now may_leave

-- of a host that rested on these contents: what was seen in the run and is left behind it, which files it wrote, and how it ended
pub record Serves {H : Type 0} (frame : HostGhosts H)
    (c : Contents) (next spare : ℕ) (bounds : RunBounds) (bytes : List ℕ) (ending : Result (Unit {0}) Stop) (old new : H) : Type 0 where
  pub progress : ServedSoFar (manner_of c.setting bounds) (history_of c) next spare bounds.size bytes
  pub moments : SeesOnly frame.moment frame.observed old new (IsServed c.setting bounds (history_of c) next spare progress.batches progress.classes progress.history (frame.said old))
  pub left : (seen : Observation) → frame.said new ≡ Some seen.said → frame.may_leave new seen.image → IsServed c.setting bounds (history_of c) next spare progress.batches progress.classes progress.history (frame.said old) seen
  pub others : WritesLogs c.setting (frame.reads old) (frame.reads new) (frame.may_leave old) (frame.may_leave new)
  pub ends : RunEnds c next spare bounds bytes progress (frame.said old) (frame.said new) (frame.reads new) (frame.may_leave new) ending

-- the bytes that the source gave, what came of net and power, why the run ended so, and what it made of each store that the cluster stood at
pub record Runs {H : Type 0} (frame : HostGhosts H)
    (cluster : Cluster) (bounds : RunBounds) (before after : Outside) (ending : Result (Unit {0}) Stop) (old new : H) : Type 0 where
  pub bytes : List ℕ
  pub gives : Gives before.source after.source bytes
  pub later : IsLater before.around after.around
  pub cause : HasCause cluster.next_epoch bytes before after ending
  pub serves : (c : Contents) → RestsOn c (frame.reads old) (frame.may_leave old) → StandsAt c cluster → Serves frame c cluster.next_epoch (spare_of before after) bounds bytes ending old new
