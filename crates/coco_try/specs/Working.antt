-- What working requests off makes of the store in hand, before anything is said.
use Rattle.std.specs.Prelude.{◌≡◌, ℕ, List, length, Option, Some, Result, Ok, Err}
use Rattle.coco_types.specs.declared.call.Request.{Request}
use Rattle.coco_append.specs.Gaining.{RestsOn}
use Rattle.coco_ast.specs.History.{History}
use Rattle.coco_cluster.specs.Standing.{StandsAt}
use Rattle.coco_cluster.specs.Writing.{WritesLogs}
use Rattle.coco_cluster.specs.declared.cluster.Cluster.{Cluster}
use Rattle.coco_host.specs.Files.{Files}
use Rattle.coco_host.specs.Moments.{Observation, SeesOnly}
use Rattle.coco_host.specs.declared.host.Host.{Ghosts as HostGhosts}
use Rattle.coco_lines.specs.Batches.{joined}
use Rattle.coco_serve.specs.Growth.{manner_of}
use Rattle.coco_serve.specs.Serving.{RestsAt}
use Rattle.coco_serve.specs.declared.bounds.RunBounds.{RunBounds}
use Rattle.coco_cluster.specs.declared.stop.Stop.{Stop}
use Rattle.coco_cluster.specs.declared.stop.Stop.TheVariants as stop
use Rattle.coco_store.specs.Contents.{Contents, history_of}
use Rattle.coco_store.specs.Rules.{Setting}
use Rattle.coco_try.specs.Report.{answered_in}
use Rattle.coco_try.specs.Trying.{AreUsedUp, HasNext, IsWhole, LeavesLast, TriedSoFar, ShowsParts}
use Rattle.coco_try.specs.declared.one_part.Tally.{Tally}

-- the host rests at a history, and the cluster stands there
pub record StandsWith (s : Setting) (h : History) (k : Cluster) (reads : Option Files) (may_leave : Files → Type 0) : Type 0 where
  pub d : Contents
  pub setting : d.setting ≡ s
  pub history : history_of d ≡ h
  pub rests : RestsOn d reads may_leave
  pub stands : StandsAt d k

-- by the answer, what is left; and where all requests are worked off, they are counted
abbrev pub WorkEnds : (c : Contents) (next spare : ℕ) (bounds : RunBounds) (requests : List Request) → TriedSoFar (manner_of c.setting bounds) (history_of c) next spare bounds.size requests
    → Cluster → Option (List ℕ) → Option Files → (Files → Type 0) → Result Tally Stop → Type 0
WorkEnds c next spare bounds requests p k said reads may_leave (Ok worked) = IsWhole p × StandsWith c.setting p.history k reads may_leave × (p.end ≡ k.next_epoch)
    × (worked.answered ≡ answered_in (joined p.classes)) × (worked.epochs ≡ length p.numbers.added)
WorkEnds c next spare bounds requests p k said reads may_leave (Err stop.Read) = ⊥
WorkEnds c next spare bounds requests p k said reads may_leave (Err stop.Say) = ⊥
WorkEnds c next spare bounds requests p k said reads may_leave (Err stop.Disk) = LeavesLast c.setting bounds (history_of c) next spare requests p said may_leave
WorkEnds c next spare bounds requests p k said reads may_leave (Err (stop.NotAStore file at)) = ⊥
WorkEnds c next spare bounds requests p k said reads may_leave (Err stop.Unreachable) = RestsAt c.setting p.history p.end reads may_leave × HasNext p
WorkEnds c next spare bounds requests p k said reads may_leave (Err stop.EpochsUsedUp) =
    RestsAt c.setting p.history p.end reads may_leave × AreUsedUp (manner_of c.setting bounds) (history_of c) next spare bounds.size requests p
WorkEnds c next spare bounds requests p k said reads may_leave (Err stop.NoMemory) = LeavesLast c.setting bounds (history_of c) next spare requests p said may_leave

-- seen at a moment: this, and no more said
abbrev pub Unsaid : (Observation → Type 0) → Option (List ℕ) → Observation → Type 0
Unsaid Shows said seen = Shows seen × (said ≡ Some seen.said)

-- of a host that rested on these contents: what was seen meanwhile, which files were written, and how it ended
pub record Works {H : Type 0} (frame : HostGhosts H)
    (c : Contents) (next spare : ℕ) (bounds : RunBounds) (requests : List Request) (result : Result Tally Stop) (after : Cluster) (old new : H) : Type 0 where
  pub progress : TriedSoFar (manner_of c.setting bounds) (history_of c) next spare bounds.size requests
  pub moments : SeesOnly frame.moment frame.observed old new (Unsaid (ShowsParts c.setting bounds (history_of c) next spare requests progress.count progress.classes progress.history) (frame.said old))
  pub others : WritesLogs c.setting (frame.reads old) (frame.reads new) (frame.may_leave old) (frame.may_leave new)
  pub ends : WorkEnds c next spare bounds requests progress after (frame.said old) (frame.reads new) (frame.may_leave new) result
