-- What the ship phase needs of the run of an epoch, and what it leaves in the copies.
use Rattle.std.specs.Prelude.{◌≡◌, ◌≢◌, ℕ, true, Bool, List, length, None}
use Rattle.std.specs.FinMap.{get}
use Rattle.coco_types.specs.RowKey.{RowKey, partition_of}
use Rattle.coco_types.specs.declared.call.Done.{Done}
use Rattle.coco_types.specs.declared.call.Piece.{Piece}
use Rattle.coco_copy.specs.CopyState.{CopyState}
use Rattle.coco_parallel.specs.Ending.{Start}
use Rattle.coco_parallel.specs.Traces.{Traced}
use Rattle.coco_parallel.specs.Worked.{CopyJournal}
use Rattle.coco_append.specs.LastWrites.{held_pieces, holds, last_stamp}
use Rattle.coco_shard.specs.RowState.{ShardState}
use Rattle.coco_ship.specs.Pieces.{AreShippable, HasPieces}
use Rattle.coco_ship.specs.Shipping.{AreBegun}
use Rattle.coco_ship.specs.declared.ring.Ring.{Ring}
use Rattle.coco_early.specs.Runs.{HasCopied, HasRun, IsRingOf}

-- of every run of an epoch
abbrev pub OfEachRun : (Start → List Done → List Piece → Traced → Type 0) → Type 0
OfEachRun P = (s : Start) (shards : List ShardState) (dones : List Done) (pieces : List Piece) (trace : Traced) → HasRun s shards dones pieces trace → P s dones pieces trace

-- its pieces may be shipped
abbrev pub PiecesAreShippable : Start → List Done → List Piece → Traced → Type 0
PiecesAreShippable s dones pieces trace = (ring : Ring) → IsRingOf s ring → AreShippable ring pieces

-- its copies have begun the epoch, and what pends in them are writes of its pieces
abbrev pub EarlyRowsAreOfPieces : Start → List Done → List Piece → Traced → Type 0
EarlyRowsAreOfPieces s dones pieces trace = (before after : List CopyState) (journals : List CopyJournal) → HasCopied s before after journals trace
    → (ring : Ring) → IsRingOf s ring → AreBegun ring s.config.epoch pieces after

-- What pends in a copy of a partition is the last write of each key there, among all pieces, and among those of each
-- node that holds the partition. For no other key anything pends.
pub record PendsLast (count : ℕ) (pieces : List Piece) (p : ℕ) (table : CopyState) : Type 0 where
  pub last : (k : RowKey) → partition_of count k ≡ p → get table.pending k ≡ last_stamp k pieces
  pub held : (held : List Bool) → holds held p ≡ true → (k : RowKey) → partition_of count k ≡ p → get table.pending k ≡ last_stamp k (held_pieces held pieces)
  pub elsewhere : (k : RowKey) → partition_of count k ≢ p → get table.pending k ≡ None

-- so it is of each copy that has the pieces of its partition
abbrev pub PendingIsLast : Start → List Done → List Piece → Traced → Type 0
PendingIsLast s dones pieces trace = (p : ℕ) (table : CopyState) → HasPieces s.config.epoch pieces p table → PendsLast (length s.shards) pieces p table
