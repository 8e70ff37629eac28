-- What the parts of an epoch hand over at its end: the slot of each worker, and what the lock of each shard closed with.
use Rattle.std.specs.Prelude.{◌≡◌, ℕ, ◌<◌, Bool, List, [], map, length, slice_index_or, Some}
use Rattle.std.specs.List.{AllByRecursion, filter_map, slice_get}
use Rattle.coco_types.specs.declared.call.Request.{Request}
use Rattle.coco_ast.specs.Keyed.{Rows}
use Rattle.coco_ast.specs.Tree.{Procedures}
use Rattle.coco_claim.specs.Seats.{times_drawn}
use Rattle.coco_desks.specs.Gains.{AreSame}
use Rattle.coco_tail.specs.Shards.{shard_at}
use Rattle.coco_journaled.specs.Passes.{HasPasses, new_pass}
use Rattle.coco_journaled.specs.Replay.{Replays}
use Rattle.coco_order.specs.Execution.{Beginning, Execution, Journal}
use Rattle.coco_seen.specs.Notes.{TableId}
use Rattle.coco_seen.specs.Rules.{numbers}
use Rattle.coco_shard.specs.RowState.{ShardState}
use Rattle.coco_shard.specs.Table.{after_ask, answer_in}
use Rattle.coco_worker.specs.Gains.{ShardPass}
use Rattle.coco_worker.specs.Working.{Job, Worked, Works, WorksDrawn}
use Rattle.coco_worker.specs.declared.slot.EpochConfig.{EpochConfig}
use Rattle.coco_worker.specs.declared.slot.Slot.{Slot}

-- what the workers of an epoch begin with: the map that the shards hold, and the shards as their locks were started with
-- them; and which early deliveries the net carries
pub record Start : Type 0 where
  pub procs : Procedures
  pub opening : Rows
  pub requests : List Request
  pub shards : List ShardState
  pub config : EpochConfig
  pub carries : ℕ → ℕ → ℕ → ℕ → Bool

-- as executions have it
abbrev pub beginning_of : Start → Beginning
beginning_of s = record {
  procs = s.procs;
  opening = s.opening;
  requests = s.requests;
  partitions = length s.shards;
  workers = s.config.started;
  attempts = s.config.attempts;
}

-- as a worker has it
abbrev pub job_of : Start → ℕ → Job
job_of s worker = record { procs = s.procs; requests = s.requests; partitions = length s.shards; worker = worker; config = s.config; carries = s.carries }

-- ---- the workers

-- a slot that nothing was done with: for each shard it has a new pass of the shard's lock, under the worker's number
pub record IsNew (shards : List ShardState) (slot : Slot) : Type 0 where
  pub passes : (shard : ℕ) → shard < length shards → (lock : TableId) × (slice_get slot.passes.items shard ≡ Some (new_pass lock (shard_at shards shard) slot.worker))
  pub count : length slot.passes.items ≡ length shards
  pub transcript : slot.transcript ≡ []
  pub pieces : slot.pieces ≡ []
  pub tail : slot.tail ≡ []
  pub drawn : slot.seat.drawn ≡ []

-- the slot of a worker that has worked off what it drew
pub record HasWorked (s : Start) (slot : Slot) : Type 0 where
  pub before : Slot
  pub worked : List Worked
  pub begun : IsNew s.shards before
  pub same : AreSame before.passes.items slot.passes.items
  pub worker : slot.worker ≡ before.worker
  pub works : Works (job_of s before.worker) before slot worked
  pub draws : WorksDrawn (job_of s before.worker) before slot worked

-- the workers' passes of one shard's lock
abbrev pub passes_at : ℕ → List Slot → List ShardPass
passes_at shard slots = filter_map (λ (slot : Slot). slice_get slot.passes.items shard) slots

-- ---- the locks

-- what the lock of a shard that was so at its start closed with, once all its passes were back
pub record IsClosed (root : ShardState) (passes : List ShardPass) (journal : Journal) (machine : ShardState) : Type 0 where
  pub passes_are : HasPasses passes journal
  pub replays : Replays answer_in after_ask root journal machine

-- ---- together

-- Each worker has worked off what it drew, each request was drawn once, and each lock is closed.
pub record HasEnded (s : Start) (slots : List Slot) (journals : List Journal) (machines : List ShardState) : Type 0 where
  pub worked : AllByRecursion (HasWorked s) slots
  pub workers : map (λ (slot : Slot). slot.worker) slots ≡ numbers 0 s.config.started
  pub drawn : (place : ℕ) → place < length s.requests → times_drawn place (map (λ (slot : Slot). slot.seat) slots) ≡ 1
  pub journals_are : length journals ≡ length s.shards
  pub machines_are : length machines ≡ length s.shards
  pub closed : (shard : ℕ) → shard < length s.shards → IsClosed (shard_at s.shards shard) (passes_at shard slots) (slice_index_or journals shard []) (shard_at machines shard)

-- the journals and the workers' transcripts
abbrev pub execution_of : List Slot → List Journal → Execution
execution_of slots journals = record { journals = journals; transcripts = map (λ (slot : Slot). slot.transcript) slots }
