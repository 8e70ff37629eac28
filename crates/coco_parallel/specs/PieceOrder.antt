-- Pieces in the order of the Dones that they are of, and what all pieces of an epoch come to.
use Rattle.std.specs.Prelude.{◌≡◌, ◌⊎◌, ℕ, ◌<◌, nat_eq, List, [], ◌∷◌, ◌++◌, map, length, Option, None, Some}
use Rattle.std.specs.List.{AllByRecursion, IsDistinct, slice_get}
use Rattle.std.specs.List.Sorted.{IsPermutation}
use Rattle.coco_types.specs.declared.call.Done.{Done}
use Rattle.coco_types.specs.declared.call.Piece.{Piece}
use Rattle.coco_types.specs.declared.call.Request.{Request}
use Rattle.coco_ast.specs.History.{rows_after}
use Rattle.coco_tail.specs.Pieces.{pieces_of}
use Rattle.coco_order.specs.Execution.{Journal, concat}
use Rattle.coco_order.specs.Outcome.{tail_dones, tail_requests}
use Rattle.coco_shard.specs.RowState.{ShardState}
use Rattle.coco_worker.specs.declared.slot.Slot.{Slot}
use Rattle.coco_parallel.specs.Ending.{Start, beginning_of, execution_of}
use Rattle.coco_parallel.specs.Laws.{AreAllDones}

-- ---- the order

abbrev pub id_of : Option Request → ℕ
id_of None = 0
id_of (Some r) = r.id

-- the id of the request at a place
abbrev pub id_at : List Request → ℕ → ℕ
id_at requests place = id_of (slice_get requests place)

-- by time, then the request's id, then partition
abbrev pub IsEarlier : List Request → Piece → Piece → Type 0
IsEarlier requests p q = (p.time < q.time) ⊎ (p.time ≡ q.time) × ((id_at requests p.place < id_at requests q.place) ⊎ (id_at requests p.place ≡ id_at requests q.place) × (p.partition < q.partition))

-- none is earlier than one that stands in front of it
abbrev pub ArePiecesInOrder : List Request → List Piece → Type 0
ArePiecesInOrder requests [] = Unit {0}
ArePiecesInOrder requests (p ∷ ps) = AllByRecursion (λ q. IsEarlier requests q p → ⊥) ps × ArePiecesInOrder requests ps

-- ---- of an epoch

-- the workers' pieces and the tail's, in order, are those of the Dones
abbrev pub PiecesAreOfDones : Start → List Slot → List Journal → List ShardState → Type 0
PiecesAreOfDones s slots journals machines = (dones : List Done) → (all : AreAllDones s slots journals machines dones) → IsDistinct nat_eq (map (λ (r : Request). r.id) s.requests)
    → (parts : List Piece)
    → IsPermutation (concat (map (λ (slot : Slot). slot.pieces) slots)
    ++ pieces_of s.procs (length s.shards) s.requests (rows_after s.procs s.opening all.commits)
    (tail_dones s.procs s.config.epoch (rows_after s.procs s.opening all.commits) all.most (tail_requests (beginning_of s) (execution_of slots journals)))) parts
    → ArePiecesInOrder s.requests parts
    → parts ≡ pieces_of s.procs (length s.shards) s.requests s.opening dones
