-- What the tests ship: pieces that are numbered, over a ring of three.
use Rattle.std.specs.Prelude.{◌≡◌, ℕ, ◌+◌, ◌<◌, List, length, slice_index_or}
use Rattle.coco_types.specs.declared.call.Piece.{Piece}
use Rattle.coco_ship.specs.declared.ring.Ring.{Ring}

abbrev pub three : Ring
three = record { nodes = 3; partitions = 3; copies = 2 }

-- a ring of three without copies
abbrev pub alone : Ring
alone = record { nodes = 3; partitions = 3; copies = 0 }

-- the piece of this number writes one row
pub record IsNumber (k : ℕ) (x : Piece) : Type 0 where
  pub place : x.place ≡ k
  pub time : x.time ≡ k + 1
  pub partition : x.partition < 3
  pub row : length x.writes ≡ 1

abbrev pub AreNumbered : List Piece → Type 0
AreNumbered pieces = (k : ℕ) (d : Piece) → k < length pieces → IsNumber k (slice_index_or pieces k d)
