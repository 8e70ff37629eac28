-- What trying a workload makes of the store in hand, and what is said of it.
use Rattle.std.specs.Prelude.{◌≡◌, ◌⊎◌, ⊤, ℕ, ◌+◌, ◌≤◌, List, length, take, Option, Some, Result, Ok, Err}
use Rattle.std.specs.Io.KnownBytes.{append_known}
use Rattle.coco_types.specs.Limits.{epochs_end}
use Rattle.coco_types.specs.declared.call.Request.{Request}
use Rattle.coco_append.specs.Gaining.{RestsOn}
use Rattle.coco_ast.specs.History.{History, IsPrefixOf, map_of}
use Rattle.coco_cluster.specs.Around.{Around, IsLater, SkipsFew, spare}
use Rattle.coco_cluster.specs.GivingUp.{AreGivenUp}
use Rattle.coco_cluster.specs.Standing.{StandsAt}
use Rattle.coco_cluster.specs.Turning.{IsStoreOf}
use Rattle.coco_cluster.specs.Writing.{WritesLogs}
use Rattle.coco_cluster.specs.declared.cluster.Cluster.{Cluster}
use Rattle.coco_host.specs.Files.{Files}
use Rattle.coco_host.specs.Moments.{Observation, SeesOnly}
use Rattle.coco_host.specs.declared.host.Host.{Ghosts as HostGhosts}
use Rattle.coco_io.specs.Counts.{Rose}
use Rattle.coco_lines.specs.Batches.{joined}
use Rattle.coco_lines.specs.Classes.{known_in}
use Rattle.coco_lines.specs.declared.class.Class.{Class}
use Rattle.coco_serve.specs.Faults.{Counts}
use Rattle.coco_serve.specs.Growth.{AddsWithin, Manner, manner_of}
use Rattle.coco_serve.specs.OneBatch.{SaysPart}
use Rattle.coco_serve.specs.Seen.{LeavesEither}
use Rattle.coco_serve.specs.Serving.{RestsAt}
use Rattle.coco_serve.specs.declared.bounds.RunBounds.{RunBounds}
use Rattle.coco_cluster.specs.declared.stop.Stop.{Stop}
use Rattle.coco_cluster.specs.declared.stop.Stop.TheVariants as stop
use Rattle.coco_store.specs.Contents.{Contents, history_of}
use Rattle.coco_store.specs.Rules.{Setting}
use Rattle.coco_try.specs.Growth.{AreAllParts, GrowsByParts, part_at, parts_of}
use Rattle.coco_try.specs.Report.{answered_in, report_text, sum_in}
use Rattle.coco_try.specs.Work.{HasNew}

-- ---- causes

-- why a call ended so, that was to work off so many requests: nodes are unreachable where from some moment of it on four attempts were given up, one behind the other; epochs are used up where
-- the numbers from the next one on reach the end, by one for each request and few that may be skipped. Want of memory needs no cause
abbrev pub HasCause : ℕ → ℕ → Around → Around → Counts → Counts → Result (Unit {0}) Stop → Type 0
HasCause next requests was now before after (Ok done) = after ≡ before
HasCause next requests was now before after (Err stop.Read) = ⊥
HasCause next requests was now before after (Err stop.Say) = Rose before.say after.say
HasCause next requests was now before after (Err stop.Disk) = Rose before.disk after.disk
HasCause next requests was now before after (Err (stop.NotAStore file at)) = after ≡ before
HasCause next requests was now before after (Err stop.Unreachable) = (m : Around) × IsLater was m × AreGivenUp 4 m now
HasCause next requests was now before after (Err stop.EpochsUsedUp) = SkipsFew next epochs_end requests (spare was now)
HasCause next requests was now before after (Err stop.NoMemory) = ⊤

-- ---- how far it came

-- a history grown by the first batches of these requests, the epochs that it has more numbered from `next` on and below `end`
pub record TriedSoFar (m : Manner) (opening : History) (next spare size : ℕ) (requests : List Request) : Type 0 where
  pub count : ℕ
  pub classes : List (List Class)
  pub history : History
  pub grown : GrowsByParts m opening (parts_of size requests count) classes history
  pub end : ℕ
  pub numbers : AddsWithin next end spare opening history

-- what is told of it: how many requests are same or new, how many epochs there are more, and the sum of table `main`
abbrev pub report_of : {m : Manner} {opening : History} {next spare size : ℕ} {requests : List Request} → TriedSoFar m opening next spare size requests → List ℕ
report_of {m} p = report_text (answered_in (joined p.classes)) (length p.numbers.added) (sum_in (map_of m.procs p.history))

-- all of the requests are worked off
abbrev pub IsWhole : {m : Manner} {opening : History} {next spare size : ℕ} {requests : List Request} → TriedSoFar m opening next spare size requests → Type 0
IsWhole {m} {opening} {next} {spare} {size} {requests} p = AreAllParts size requests p.count

-- the next batch has a new request
abbrev pub HasNext : {m : Manner} {opening : History} {next spare size : ℕ} {requests : List Request} → TriedSoFar m opening next spare size requests → Type 0
HasNext {m} {opening} {next} {spare} {size} {requests} p = HasNew (known_in p.history) (part_at size requests p.count)

-- ---- what is seen

-- seen at a moment: a good store under the same layout, whose history is the opening one grown by some of the first batches, and begins the whole one. The epochs that were added are numbered
-- from `next` on, few numbers are skipped, and no entry is of an epoch behind the one that is under way
pub record ShowsParts (s : Setting) (bounds : RunBounds) (opening : History) (next spare : ℕ) (requests : List Request) (count : ℕ) (classes : List (List Class)) (whole : History) (seen : Observation) : Type 0 where
  pub parts : ℕ
  pub within : parts ≤ count
  pub history : History
  pub number : ℕ
  pub numbers : AddsWithin next number spare opening history
  pub store : IsStoreOf s history (number + 1) seen.image
  pub grown : GrowsByParts (manner_of s bounds) opening (parts_of bounds.size requests parts) (take parts classes) history
  pub begins : IsPrefixOf history whole

-- nothing is said before all requests are worked off, and every store that is seen has them; then a front of what is told of them is
pub record IsSeen (s : Setting) (bounds : RunBounds) (opening : History) (next spare : ℕ) (requests : List Request) (p : TriedSoFar (manner_of s bounds) opening next spare bounds.size requests)
    (said : Option (List ℕ)) (seen : Observation) : Type 0 where
  pub shows : ShowsParts s bounds opening next spare requests p.count p.classes p.history seen
  pub says : (said ≡ Some seen.said) ⊎ (IsWhole p × (shows.history ≡ p.history) × SaysPart (report_of p) said (Some seen.said))

-- ---- how it ends

-- all batches but maybe the last one are surely committed: what a crash may leave is a store of their history or of the whole one, and no entry in it is of a later epoch than the one that was
-- tried last
pub record LeavesLast (s : Setting) (bounds : RunBounds) (opening : History) (next spare : ℕ) (requests : List Request) (p : TriedSoFar (manner_of s bounds) opening next spare bounds.size requests)
    (now : Option (List ℕ)) (may_leave : Files → Type 0) : Type 0 where
  pub count : ℕ
  pub last : (p.count ≡ count) ⊎ (p.count ≡ count + 1)
  pub history : History
  pub grown : GrowsByParts (manner_of s bounds) opening (parts_of bounds.size requests count) (take count p.classes) history
  pub number : ℕ
  pub numbers : AddsWithin next number spare opening history
  pub left : LeavesEither s history p.history (number + 1) now may_leave

-- as many epochs were added as there were numbers for, but for few that may be skipped, and the next batch has a new request
pub record AreUsedUp (m : Manner) (opening : History) (next spare size : ℕ) (requests : List Request) (p : TriedSoFar m opening next spare size requests) : Type 0 where
  pub end : SkipsFew next epochs_end (length p.numbers.added) spare
  pub has_next : HasNext p

-- the host rests at all requests, and a front of what is told of them is said
abbrev pub IsToldInPart : (s : Setting) (bounds : RunBounds) (opening : History) (next spare : ℕ) (requests : List Request) → TriedSoFar (manner_of s bounds) opening next spare bounds.size requests
    → Option (List ℕ) → Option (List ℕ) → Option Files → (Files → Type 0) → Type 0
IsToldInPart s bounds opening next spare requests p before now reads may_leave = IsWhole p × RestsAt s p.history p.end reads may_leave × SaysPart (report_of p) before now

-- by the answer: all requests are committed and told of; a fault of saying leaves all of them committed, and told of in part; where nodes are unreachable, or epochs used up, nothing is said,
-- and the next batch has a new request; after a fault of the disk nothing is said, and one batch more may be committed than surely is; out of memory so too, or as where saying failed. No file
-- of such a store is refused
abbrev pub TryEnds : (c : Contents) (next spare : ℕ) (bounds : RunBounds) (requests : List Request) → TriedSoFar (manner_of c.setting bounds) (history_of c) next spare bounds.size requests
    → Option (List ℕ) → Option (List ℕ) → Option Files → (Files → Type 0) → Result (Unit {0}) Stop → Type 0
TryEnds c next spare bounds requests p before now reads may_leave (Ok done) = IsWhole p × RestsAt c.setting p.history p.end reads may_leave × (now ≡ append_known before (report_of p))
TryEnds c next spare bounds requests p before now reads may_leave (Err stop.Read) = ⊥
TryEnds c next spare bounds requests p before now reads may_leave (Err stop.Say) = IsToldInPart c.setting bounds (history_of c) next spare requests p before now reads may_leave
TryEnds c next spare bounds requests p before now reads may_leave (Err stop.Disk) = LeavesLast c.setting bounds (history_of c) next spare requests p now may_leave × (now ≡ before)
TryEnds c next spare bounds requests p before now reads may_leave (Err (stop.NotAStore file at)) = ⊥
TryEnds c next spare bounds requests p before now reads may_leave (Err stop.Unreachable) =
    RestsAt c.setting p.history p.end reads may_leave × (now ≡ before) × HasNext p
TryEnds c next spare bounds requests p before now reads may_leave (Err stop.EpochsUsedUp) =
    RestsAt c.setting p.history p.end reads may_leave × (now ≡ before) × AreUsedUp (manner_of c.setting bounds) (history_of c) next spare bounds.size requests p
TryEnds c next spare bounds requests p before now reads may_leave (Err stop.NoMemory) =
    LeavesLast c.setting bounds (history_of c) next spare requests p now may_leave × (now ≡ before)
    ⊎ IsToldInPart c.setting bounds (history_of c) next spare requests p before now reads may_leave

-- of a host that rested on these contents: what was seen meanwhile and is left behind, which files were written, and how it ended
pub record Tries {H : Type 0} (frame : HostGhosts H)
    (c : Contents) (next spare : ℕ) (bounds : RunBounds) (requests : List Request) (result : Result (Unit {0}) Stop) (old new : H) : Type 0 where
  pub progress : TriedSoFar (manner_of c.setting bounds) (history_of c) next spare bounds.size requests
  pub moments : SeesOnly frame.moment frame.observed old new (IsSeen c.setting bounds (history_of c) next spare requests progress (frame.said old))
  pub left : (seen : Observation) → frame.said new ≡ Some seen.said → frame.may_leave new seen.image → IsSeen c.setting bounds (history_of c) next spare requests progress (frame.said old) seen
  pub others : WritesLogs c.setting (frame.reads old) (frame.reads new) (frame.may_leave old) (frame.may_leave new)
  pub ends : TryEnds c next spare bounds requests progress (frame.said old) (frame.said new) (frame.reads new) (frame.may_leave new) result

-- what came of net and power, why the call ended so, and what it made of each store that the cluster stood at
pub record TriesOut {H : Type 0} (frame : HostGhosts H)
    (cluster : Cluster) (bounds : RunBounds) (requests : List Request) (was now : Around) (before after : Counts) (result : Result (Unit {0}) Stop) (old new : H) : Type 0 where
  pub later : IsLater was now
  pub cause : HasCause cluster.next_epoch (length requests) was now before after result
  pub tries : (c : Contents) → RestsOn c (frame.reads old) (frame.may_leave old) → StandsAt c cluster
      → Tries frame c cluster.next_epoch (spare was now) bounds requests result old new
