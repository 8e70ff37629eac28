-- The rows of a prepared entry: what an epoch's pieces wrote in the partitions that a node holds, each key with its last write.
use Rattle.std.specs.Prelude.{◌≡◌, ℕ, ◌<◌, Bool, true, false, if◌then◌else◌, List, [], ◌∷◌, map, slice_index_or, Option, None, Some}
use Rattle.std.specs.List.{filter}
use Rattle.std.specs.Option.{option_map, option_or}
use Rattle.coco_types.specs.RowKey.{RowKey}
use Rattle.coco_types.specs.declared.call.Done.{Done}
use Rattle.coco_types.specs.declared.call.Piece.{Piece}
use Rattle.coco_types.specs.declared.call.Request.{Request}
use Rattle.coco_types.specs.declared.call.Write.{Write}
use Rattle.coco_ast.specs.History.{rows_after}
use Rattle.coco_ast.specs.Keyed.{Rows, on_partition, put_over}
use Rattle.coco_ast.specs.Meaning.{Datum, is_key}
use Rattle.coco_ast.specs.Tree.{Procedures}
use Rattle.coco_bytes.specs.Lists.{FitInTurn}
use Rattle.coco_entry.specs.Rows.{RowRises}
use Rattle.coco_entry.specs.declared.prepared.Row.{Row}
use Rattle.coco_tail.specs.Pieces.{pieces_of}

-- when a key was written, and what
abbrev pub Stamp : Type 0
Stamp = ℕ × Datum

-- what the last of these writes on a key wrote
abbrev pub last_value : RowKey → List Write → Option Datum
last_value k [] = None
last_value k (w ∷ ws) = option_or (last_value k ws) (if is_key k w.key then Some w.value else None)

-- the same of pieces, with the time
abbrev pub last_stamp : RowKey → List Piece → Option Stamp
last_stamp k [] = None
last_stamp k (p ∷ ps) = option_or (last_stamp k ps) (option_map (λ v. (p.time, v)) (last_value k p.writes))

-- and of rows
abbrev pub row_stamp : RowKey → List Row → Option Stamp
row_stamp k [] = None
row_stamp k (r ∷ rs) = option_or (row_stamp k rs) (if is_key k r.key then Some (r.time, r.value) else None)

-- whether a node holds a partition
abbrev pub holds : List Bool → ℕ → Bool
holds held p = slice_index_or held p false

abbrev pub held_pieces : List Bool → List Piece → List Piece
held_pieces held = filter (λ p. holds held p.partition)

-- the rows rise by key, and there is one for each key that is written in a partition that is held, as it was written last
pub record AreLastWrites (held : List Bool) (pieces : List Piece) (rows : List Row) : Type 0 where
  pub rising : FitInTurn RowRises None rows
  pub each : (k : RowKey) → row_stamp k rows ≡ last_stamp k (held_pieces held pieces)

abbrev pub writes_of : List Row → List Write
writes_of = map (λ (r : Row). record { key = r.key; value = r.value })

-- put over the map before the Dones, such rows give the map after them, on each partition that is held
abbrev pub LeaveTheMap : Procedures → ℕ → List Request → Rows → List Done → Type 0
LeaveTheMap ps count requests m dones = (held : List Bool) (rows : List Row) → AreLastWrites held (pieces_of ps count requests m dones) rows
    → (p : ℕ) → p < count → holds held p ≡ true → on_partition count p (put_over m (writes_of rows)) ≡ on_partition count p (rows_after ps m dones)
