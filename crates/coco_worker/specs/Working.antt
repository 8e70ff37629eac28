-- What a worker's slot gains by the requests that it works off.
use Rattle.std.specs.Prelude.{◌≡◌, ℕ, nat_lt, Bool, true, List, [], ◌∷◌, ◌++◌, map, length, filter, Option, None, Some}
use Rattle.std.specs.List.{flat_map, slice_get, AllByRecursion}
use Rattle.coco_types.specs.declared.call.Piece.{Piece}
use Rattle.coco_types.specs.declared.call.Request.{Request}
use Rattle.coco_types.specs.declared.call.Write.{Write}
use Rattle.coco_ast.specs.Tree.{Procedures}
use Rattle.coco_claim.specs.Seats.{Drawer, has_ended}
use Rattle.coco_copy.specs.declared.ops.CopyAsk.{CopyAsk}
use Rattle.coco_desks.specs.Gains.{Gain}
use Rattle.coco_occ.specs.Script.{IsScript}
use Rattle.coco_occ.specs.declared.outcome.Ended.{Ended as Unmade}
use Rattle.coco_occ.specs.declared.outcome.Tailed.{Tailed}
use Rattle.coco_occ.specs.declared.outcome.Tried.{Tried}
use Rattle.coco_order.specs.Execution.{Tries, AreTries, all_tries, concat_tries}
use Rattle.coco_worker.specs.Copying.{asked, puts_at}
use Rattle.coco_pieces.specs.Pieces.{request_pieces}
use Rattle.coco_worker.specs.Trying.{Adds, ends_of, time_of}
use Rattle.coco_worker.specs.declared.copies.WorkerCommit.{WorkerCommit}
use Rattle.coco_worker.specs.declared.slot.EpochConfig.{EpochConfig}
use Rattle.coco_worker.specs.declared.slot.Slot.{Slot}

-- what one worker of an epoch works at, and which early deliveries the net carries: in an epoch, by a worker, of a request's place, to a node
pub record Job : Type 0 where
  pub procs : Procedures
  pub requests : List Request
  pub partitions : ℕ
  pub worker : ℕ
  pub config : EpochConfig
  pub carries : ℕ → ℕ → ℕ → ℕ → Bool

-- ---- scripts

-- The script is a whole one of the call at its place, by an attempt of the worker, with these writes.
pub record IsWhole (j : Job) (t : Tried) (writes : List Write) : Type 0 where
  pub request : Request
  pub placed : slice_get j.requests t.place ≡ Some request
  pub by_worker : t.by.worker ≡ j.worker
  pub script : IsScript j.procs request.call t.by j.partitions t.script t.outcome writes

abbrev pub IsTriedBy : Job → Tried → Type 0
IsTriedBy j t = (writes : List Write) × IsWhole j t writes

-- ---- requests

-- a request with its scripts, and what the attempt of the last one writes
pub record Worked : Type 0 where
  pub request : Request
  pub tries : Tries
  pub writes : List Write

-- The scripts are as many as it takes, all at the request's place.
pub record IsWorkedOff (j : Job) (w : Worked) : Type 0 where
  pub placed : slice_get j.requests w.tries.place ≡ Some w.request
  pub tries : AreTries j.config.attempts w.tries
  pub last : IsWhole j w.tries.last w.writes

-- the time of its commit, if it has one
abbrev pub commit_time : Worked → Option ℕ
commit_time w = time_of w.tries.last.outcome

-- the pieces of a commit
abbrev pub pieces_at : ℕ → ℕ → List Write → Option ℕ → List Piece
pieces_at partitions place writes None = []
pieces_at partitions place writes (Some time) = request_pieces partitions place time writes

abbrev pub pieces_of : Job → Worked → List Piece
pieces_of j w = pieces_at j.partitions w.tries.place w.writes (commit_time w)

-- the place in the tail of a request without a commit, with the ends of its attempts
abbrev pub tailed : ℕ → List Unmade → Option ℕ → List Tailed
tailed id ends None = record { id = id; ends = ends } ∷ []
tailed id ends (Some time) = []

abbrev pub tail_of : Worked → List Tailed
tail_of w = tailed w.request.id (ends_of (all_tries w.tries)) (commit_time w)

-- the slot has the pieces of a commit with these writes, and its passes of copy tables put those that the net carries
pub record Keeps (carries : ℕ → ℕ → ℕ → ℕ → Bool) (c : WorkerCommit) (before after : Slot) (writes : List Write) : Type 0 where
  pub pieces : after.pieces ≡ before.pieces ++ request_pieces c.partitions c.place c.time writes
  pub copied : Gain asked before.copy_passes.items after.copy_passes.items (λ table. puts_at carries c table writes)

-- what a commit asks of a table at once
abbrev pub commit_at : Job → ℕ → ℕ → WorkerCommit
commit_at j place time = record { config = j.config; partitions = j.partitions; worker = j.worker; place = place; time = time }

abbrev pub copies_at : Job → ℕ → ℕ → List Write → Option ℕ → List CopyAsk
copies_at j table place writes None = []
copies_at j table place writes (Some time) = puts_at j.carries (commit_at j place time) table writes

abbrev pub copied : Job → ℕ → Worked → List CopyAsk
copied j table w = copies_at j table w.tries.place w.writes (commit_time w)

-- ---- all of them

abbrev pub scripts_of : List Worked → List Tried
scripts_of ws = concat_tries (map (λ (w : Worked). w.tries) ws)

abbrev pub places_of : List Worked → List ℕ
places_of ws = map (λ (w : Worked). w.tries.place) ws

-- The slot after these requests were worked off, one after another.
pub record Works (j : Job) (before after : Slot) (ws : List Worked) : Type 0 where
  pub each : AllByRecursion (IsWorkedOff j) ws
  pub adds : Adds (IsTriedBy j) before after (scripts_of ws)
  pub pieces : after.pieces ≡ before.pieces ++ flat_map (pieces_of j) ws
  pub tail : after.tail ≡ before.tail ++ flat_map tail_of ws
  pub copies : Gain asked before.copy_passes.items after.copy_passes.items (λ table. flat_map (copied j table) ws)

-- ---- draws

-- The seat drew these numbers more.
pub record DrawsOn (before after : Drawer) (more : List ℕ) : Type 0 where
  pub drawn : after ≡ record before { drawn = before.drawn ++ more }
  pub ended : has_ended after ≡ true

-- those of the numbers that are places of so many requests
abbrev pub places_among : ℕ → List ℕ → List ℕ
places_among count numbers = filter (λ x. nat_lt x count) numbers

-- The requests that were worked off are those at the numbers that the seat drew, in order.
pub record WorksDrawn (j : Job) (before after : Slot) (ws : List Worked) : Type 0 where
  pub numbers : List ℕ
  pub draws : DrawsOn before.seat after.seat numbers
  pub places : places_of ws ≡ places_among (length j.requests) numbers
