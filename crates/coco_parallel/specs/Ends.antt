-- What the end of an epoch makes of its transcripts: the Dones of the commits, and the tail behind them.
use Rattle.std.specs.Prelude.{◌≡◌, ℕ, ◌<◌, ◌≤◌, ◌^◌, Bool, false, nat_eq, List, ◌++◌, map, length, slice_index_or}
use Rattle.std.specs.List.{IsDistinct, filter, filter_map, slice_get}
use Rattle.std.specs.List.Sorted.{IsPermutation}
use Rattle.coco_types.specs.Limits.{most_batch_lines, most_partitions, most_time}
use Rattle.coco_types.specs.declared.call.Done.{Done}
use Rattle.coco_types.specs.declared.call.Piece.{Piece}
use Rattle.coco_types.specs.declared.call.Request.{Request}
use Rattle.coco_ast.specs.Keyed.{Rows}
use Rattle.coco_ast.specs.Tree.{Procedures}
use Rattle.coco_tail.specs.Pieces.{pieces_of}
use Rattle.coco_tail.specs.Running.{AreAtTheirPlaces, requests_of}
use Rattle.coco_tail.specs.declared.placed.PlacedRequest.{PlacedRequest}
use Rattle.coco_tail.specs.Shards.{AreOfPartitions, AreQuietAfter, HaveNewest, KeepStable}
use Rattle.coco_occ.specs.declared.outcome.Ended.{Ended}
use Rattle.coco_occ.specs.declared.outcome.Tried.{Tried}
use Rattle.coco_order.specs.Execution.{Beginning, Execution, Journal, Transcript, concat}
use Rattle.coco_order.specs.Order.{AreInOrder}
use Rattle.coco_order.specs.Outcome.{AreCommits, AreOnce, done_of, is_committed, tail_dones, tail_requests, tail_rows}
pub use Rattle.coco_order.specs.Outcome.{has_commit}
use Rattle.coco_shard.specs.RowState.{ShardState}
use Rattle.coco_worker.specs.Trying.{ends_of}
use Rattle.coco_worker.specs.declared.slot.Slot.{Slot}
use Rattle.coco_parallel.specs.Ending.{Start, beginning_of, execution_of}
use Rattle.coco_parallel.specs.Epochs.{IsWorkedEpoch}
use Rattle.coco_parallel.specs.Laws.{IsGreatestIn}
use Rattle.coco_parallel.specs.PieceOrder.{ArePiecesInOrder}

-- the Dones of the scripts that committed
abbrev pub dones_of : ℕ → List Request → List Tried → List Done
dones_of epoch requests ts = filter_map (λ (t : Tried). done_of epoch (slice_get requests t.place) t.outcome) ts

-- What is left of requests whose calls went into the Dones of these scripts: the ids, and each request of which none of
-- the scripts committed.
pub record AreLeft (ts : List Tried) (before after : List Request) : Type 0 where
  pub ids : map (λ (r : Request). r.id) after ≡ map (λ (r : Request). r.id) before
  pub others : (place : ℕ) → has_commit ts place ≡ false → slice_get after place ≡ slice_get before place

-- the ends of those of the attempts that are at a place and didn't commit
abbrev pub ends_at : ℕ → List Tried → List Ended
ends_at place ts = ends_of (filter (λ (t : Tried). nat_eq t.place place) ts)

-- for each place whether a script of it committed
abbrev pub AreCommitted : Execution → List Bool → Type 0
AreCommitted x flags = (place : ℕ) → place < length flags → slice_index_or flags place false ≡ is_committed x place

-- there are shards, no more than there may be, each has its partition, no mark stands, and no read time is too great for a tail
pub record MayRunTail (shards : List ShardState) : Type 0 where
  pub some : 0 < length shards
  pub most : length shards ≤ most_partitions
  pub partitions : AreOfPartitions shards
  pub quiet : AreQuietAfter most_time shards

-- The tail of these requests ran behind these commits and pieces, whichever map the shards' newest values are, at the
-- times above each read time.
pub record RanTail (procs : Procedures) (epoch : ℕ) (tail : List PlacedRequest) (before after : List ShardState) (commits dones : List Done) (parts all : List Piece) : Type 0 where
  pub most : ℕ
  pub greatest : IsGreatestIn before most
  pub dones_are : (rows : Rows) → HaveNewest rows before → dones ≡ commits ++ tail_dones procs epoch rows most (requests_of tail)
  pub pieces_are : (rows : Rows) (asked : List Request) → HaveNewest rows before → AreAtTheirPlaces asked tail
      → all ≡ parts ++ pieces_of procs (length before) asked rows (tail_dones procs epoch rows most (requests_of tail))
  pub newest : (rows : Rows) → HaveNewest rows before → HaveNewest (tail_rows procs rows (requests_of tail)) after

-- behind these commits the tail ran from this map on, at the times above this one, and so all Dones came about, and all
-- pieces behind these lists, and the map that the shards have then
pub record HasTail (b : Beginning) (epoch : ℕ) (x : Execution) (commits : List Done) (most : ℕ) (lists : List (List Piece)) (rows : Rows) (after : List ShardState) (dones : List Done) (parts : List Piece) : Type 0 where
  pub same : IsPermutation (commits ++ tail_dones b.procs epoch rows most (tail_requests b x)) dones
  pub pieces : IsPermutation (concat lists ++ pieces_of b.procs b.partitions b.requests rows (tail_dones b.procs epoch rows most (tail_requests b x))) parts
  pub newest : HaveNewest (tail_rows b.procs rows (tail_requests b x)) after

-- All Dones of an execution whose shards were so, and all pieces, in the order of commit: the commits with the workers'
-- pieces, and behind them the tail, whichever map the shards' newest values are.
pub record IsEnd (b : Beginning) (epoch : ℕ) (x : Execution) (lists : List (List Piece)) (before after : List ShardState) (dones : List Done) (parts : List Piece) : Type 0 where
  pub commits : List Done
  pub most : ℕ
  pub commits_are : AreCommits b epoch x commits
  pub greatest : IsGreatestIn before most
  pub tail : (rows : Rows) → HaveNewest rows before → HasTail b epoch x commits most lists rows after dones parts
  pub order : AreInOrder dones
  pub pieces_order : ArePiecesInOrder b.requests parts

-- ---- of every end of the workers

-- each request has an id of its own, there are no more of them than an epoch may have, and the attempts at each fit a byte
pub record IsSmall (s : Start) : Type 0 where
  pub distinct : IsDistinct nat_eq (map (λ (r : Request). r.id) s.requests)
  pub few : length s.requests ≤ most_batch_lines
  pub attempts : s.config.attempts < 2 ^ 8

-- the shards have their partitions and the stable values of their start, no mark stands, no read time is too great for a
-- tail, and no request committed twice
pub record MayBeginTail (first machines : List ShardState) (transcripts : List Transcript) : Type 0 where
  pub kept : KeepStable first machines
  pub quiet : AreQuietAfter most_time machines
  pub once : AreOnce (concat transcripts)

abbrev pub TailMayBegin : Start → List Slot → List Journal → List ShardState → Type 0
TailMayBegin s slots journals machines = IsSmall s → MayBeginTail s.shards machines (execution_of slots journals).transcripts

-- with the tail behind it the epoch is an execution with its outcome, and serial
abbrev pub EndsAreSerial : Start → List Slot → List Journal → List ShardState → Type 0
EndsAreSerial s slots journals machines = IsSmall s → (after : List ShardState) (dones : List Done) (parts : List Piece)
    → KeepStable machines after → IsEnd (beginning_of s) s.config.epoch (execution_of slots journals) (map (λ (slot : Slot). slot.pieces) slots) machines after dones parts
    → IsWorkedEpoch (beginning_of s) s.config.epoch journals (execution_of slots journals).transcripts after dones parts
