-- What holds of each epoch that workers ran side by side.
use Rattle.std.specs.Prelude.{◌≡◌, ℕ, ◌<◌, ◌≤◌, List, ◌++◌, length, None}
use Rattle.std.specs.List.Sorted.{IsPermutation}
use Rattle.std.specs.List.{AllByRecursion}
use Rattle.coco_types.specs.RowKey.{RowKey}
use Rattle.coco_types.specs.declared.call.Done.{Done}
use Rattle.coco_types.specs.declared.call.Request.{Request}
use Rattle.coco_ast.specs.Fitting.{Fits}
use Rattle.coco_ast.specs.History.{rows_after}
use Rattle.coco_ast.specs.Keyed.{Rows, value_at}
use Rattle.coco_tail.specs.Shards.{AreOfPartitions, HaveNewest, HoldMap, KeepStable, row_in}
use Rattle.coco_order.specs.Execution.{IsExecution, Journal, journal_on}
use Rattle.coco_order.specs.Order.{AreInOrder}
use Rattle.coco_order.specs.Outcome.{AreCommits, IsOutcome, tail_dones, tail_requests}
use Rattle.coco_shard.specs.Law.{law_row}
use Rattle.coco_shard.specs.RowState.{ShardState}
use Rattle.coco_worker.specs.declared.slot.Slot.{Slot}
use Rattle.coco_parallel.specs.Ending.{Start, HasEnded, beginning_of, execution_of}

-- the shards hold the opening map, there are some, and the requests' calls fit the procedures
pub record IsStart (s : Start) : Type 0 where
  pub some : 0 < length s.shards
  pub fitting : AllByRecursion (λ (r : Request). Fits s.procs r.call) s.requests
  pub holds : HoldMap s.opening s.shards

-- of every end of an epoch
abbrev pub AtEachEnd : (Start → List Slot → List Journal → List ShardState → Type 0) → Type 0
AtEachEnd P = (s : Start) (slots : List Slot) (journals : List Journal) (machines : List ShardState) → IsStart s → HasEnded s slots journals machines → P s slots journals machines

-- the journals and the transcripts are an execution
abbrev pub AreAnExecution : Start → List Slot → List Journal → List ShardState → Type 0
AreAnExecution s slots journals machines = IsExecution (beginning_of s) (execution_of slots journals)

-- the shards have the rows that the journals say
abbrev pub ShardsHaveRows : Start → List Slot → List Journal → List ShardState → Type 0
ShardsHaveRows s slots journals machines = (k : RowKey) → row_in machines k ≡ law_row (value_at s.opening) k (journal_on (beginning_of s) (execution_of slots journals) k)

-- ---- the tail

-- the shards hold this map as their newest values, beside the stable ones of their start, and no mark stands
pub record AreReady (first machines : List ShardState) (rows : Rows) : Type 0 where
  pub partitions : AreOfPartitions machines
  pub newest : HaveNewest rows machines
  pub stable : KeepStable first machines
  pub unmarked : (k : RowKey) → (row_in machines k).mark ≡ None

-- the tail may run, on the map that the commits leave
abbrev pub TailMayRun : Start → List Slot → List Journal → List ShardState → Type 0
TailMayRun s slots journals machines = (commits : List Done) → AreCommits (beginning_of s) s.config.epoch (execution_of slots journals) commits → AreReady s.shards machines (rows_after s.procs s.opening commits)

-- the greatest read time of any row in the shards
pub record IsGreatestIn (machines : List ShardState) (most : ℕ) : Type 0 where
  pub bounds : (k : RowKey) → (row_in machines k).rts ≤ most
  pub at : RowKey
  pub attained : (row_in machines at).rts ≡ most

-- all Dones by time and id: the commits, and those of the tail from the map that the commits leave, at the times above
-- each read time
pub record AreAllDones (s : Start) (slots : List Slot) (journals : List Journal) (machines : List ShardState) (dones : List Done) : Type 0 where
  pub commits : List Done
  pub most : ℕ
  pub commits_are : AreCommits (beginning_of s) s.config.epoch (execution_of slots journals) commits
  pub greatest : IsGreatestIn machines most
  pub same : IsPermutation (commits ++ tail_dones s.procs s.config.epoch (rows_after s.procs s.opening commits) most (tail_requests (beginning_of s) (execution_of slots journals))) dones
  pub order : AreInOrder dones

-- they are the outcome of the execution
abbrev pub DonesAreItsOutcome : Start → List Slot → List Journal → List ShardState → Type 0
DonesAreItsOutcome s slots journals machines = (dones : List Done) → AreAllDones s slots journals machines dones → IsOutcome (beginning_of s) s.config.epoch (execution_of slots journals) dones
