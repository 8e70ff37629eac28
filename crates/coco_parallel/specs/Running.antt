-- What the calls of an epoch hand on to each other, from the start of its locks to their end.
use Rattle.std.specs.Prelude.{◌≡◌, ℕ, ◌<◌, List, [], map, length, slice_index_or, true}
use Rattle.std.specs.Global.{Vec}
use Rattle.coco_claim.specs.Seats.{times_drawn}
use Rattle.coco_desks.specs.Locking.{AreEnded, AreStarted}
use Rattle.coco_desks.specs.Rows.{column}
use Rattle.coco_order.specs.Execution.{Journal}
use Rattle.coco_seen.specs.Notes.{Lock}
use Rattle.coco_shard.specs.RowState.{ShardState}
use Rattle.coco_shard.specs.Table.{after_ask, answer_in}
use Rattle.coco_worker.specs.Gains.{ShardPass}
use Rattle.coco_worker.specs.declared.slot.Slot.{Slot}
use Rattle.coco_parallel.specs.Ending.{HasEnded, Start, passes_at}
use Rattle.coco_parallel.specs.Working.{LeavesEach}
use Rattle.coco_parallel.specs.declared.workers.Station.{Station}

abbrev pub slots_of : List Station → List Slot
slots_of = map (λ (station : Station). station.slot)

-- a slot with a pass of each tray, by which nothing was done
pub record IsDealt (trays : List (Vec ShardPass)) (worker : ℕ) (slot : Slot) : Type 0 where
  pub worker_is : slot.worker ≡ worker
  pub passes : slot.passes.items ≡ column worker trays
  pub transcript : slot.transcript ≡ []
  pub pieces : slot.pieces ≡ []
  pub tail : slot.tail ≡ []
  pub drawn : slot.seat.drawn ≡ []

-- The shards are put behind locks, the passes go to the stations, these run and are done, each request was drawn once,
-- the passes go back, and the locks are closed.
pub record IsRun (s : Start) (locks : List Lock) (trays back : List (Vec ShardPass)) (before after : List Station) (journals : List Journal) (machines : List ShardState) : Type 0 where
  pub some : 0 < s.config.started
  pub started : AreStarted s.config.started s.shards locks trays
  pub stations : length before ≡ s.config.started
  pub still : length after ≡ length before
  pub dealt : (worker : ℕ) (d : Station) → worker < length before → IsDealt trays worker (slice_index_or before worker d).slot
  pub left : LeavesEach s.procs s.requests (length s.shards) s.config s.carries before after
  pub done : (worker : ℕ) (d : Station) → worker < length before → (slice_index_or after worker d).is_done ≡ true
  pub drawn : (place : ℕ) → place < length s.requests → times_drawn place (map (λ (slot : Slot). slot.seat) (slots_of after)) ≡ 1
  pub trays_are : length back ≡ length s.shards
  pub back_are : (shard : ℕ) (d : Vec ShardPass) → shard < length s.shards → (slice_index_or back shard d).items ≡ passes_at shard (slots_of after)
  pub ended : AreEnded answer_in after_ask back [] [] machines journals

-- then the epoch has ended, so that what holds at each end holds of it
abbrev pub RunsEnd : Type 0
RunsEnd = (s : Start) (locks : List Lock) (trays back : List (Vec ShardPass)) (before after : List Station) (journals : List Journal) (machines : List ShardState) → IsRun s locks trays back before after journals machines
    → HasEnded s (slots_of after) journals machines
