-- The pieces of an epoch, and what their copies are to hold.
use Rattle.std.specs.Prelude.{◌≡◌, ℕ, ◌==◌, ◌<◌, Bool, false, nat_le, List, All, Contains, map, Option, None, Some}
use Rattle.std.specs.List.{filter, flat_map, list_all}
use Rattle.std.specs.FinMap.{get}
use Rattle.coco_types.specs.RowKey.{RowKey}
use Rattle.coco_types.specs.declared.value.Value.{Value}
use Rattle.coco_types.specs.declared.call.Piece.{Piece}
use Rattle.coco_types.specs.declared.call.Write.{Write}
use Rattle.coco_copy.specs.CopyState.{CopyState}
use Rattle.coco_copy.specs.Greatest.{greatest_put, puts_on}
use Rattle.coco_copy.specs.declared.ops.CopyAsk.{CopyAsk}
use Rattle.coco_copy.specs.declared.ops.CopyAsk.TheVariants.{Put}
use Rattle.coco_ship.specs.declared.ring.Ring.{Ring}

-- a piece of the partition
pub record IsOf (pieces : List Piece) (p : ℕ) (x : Piece) : Type 0 where
  pub among : Contains pieces x
  pub partition : x.partition ≡ p

-- the puts that a piece's writes make
abbrev pub asks_of : ℕ → Piece → List CopyAsk
asks_of epoch x = map (λ w. Put epoch x.time w) x.writes

-- those of all pieces of a partition
abbrev pub puts_of : ℕ → List Piece → ℕ → List CopyAsk
puts_of epoch pieces p = flat_map (asks_of epoch) (filter (λ x. x.partition == p) pieces)

-- for each key the write with the greatest time among those of the partition's pieces pends
abbrev pub HasPieces : ℕ → List Piece → ℕ → CopyState → Type 0
HasPieces epoch pieces p table = (k : RowKey) → get table.pending k ≡ greatest_put (puts_on epoch k (puts_of epoch pieces p))

-- Each piece is of a partition; no two of one partition have the same place, and no two writes of one partition
-- and time the same key.
pub record AreShippable (ring : Ring) (pieces : List Piece) : Type 0 where
  pub partitions : All (λ x. x.partition < ring.partitions) pieces
  pub one_piece : (p : ℕ) (x y : Piece) → IsOf pieces p x → IsOf pieces p y → x.place ≡ y.place → x ≡ y
  pub one_write : (p : ℕ) (x y : Piece) → IsOf pieces p x → IsOf pieces p y → x.time ≡ y.time
      → (w v : Write) → Contains x.writes w → Contains y.writes v → w.key ≡ v.key → w ≡ v

-- what pends was written by a piece of the partition, at that piece's time
abbrev pub IsWritten : List Piece → ℕ → CopyState → Type 0
IsWritten pieces p table = (k : RowKey) (time : ℕ) (value : Option Value) → get table.pending k ≡ Some (time, value)
    → (x : Piece) × IsOf pieces p x × (x.time ≡ time) × Contains x.writes (record { key = k; value = value })

-- whether what pends has at least this time
abbrev pub covers_at : Option (ℕ × Option Value) → ℕ → Bool
covers_at None time = false
covers_at (Some pending) time = nat_le time pending.0

-- whether that is so for the key of each write
abbrev pub covers : CopyState → ℕ → List Write → Bool
covers table time writes = list_all (λ w. covers_at (get table.pending w.key) time) writes
