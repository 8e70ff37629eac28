-- What a request wrote, partition by partition.
use Rattle.std.specs.Prelude.{ℕ, zero, suc, nat_eq, List, [], ◌∷◌, ◌++◌}
use Rattle.std.specs.List.{filter}
use Rattle.coco_types.specs.RowKey.{partition_of}
use Rattle.coco_types.specs.declared.call.Piece.{Piece}
use Rattle.coco_types.specs.declared.call.Write.{Write}

-- those of the writes that are on the partition p of so many
abbrev pub writes_on : ℕ → ℕ → List Write → List Write
writes_on count p = filter (λ w. nat_eq (partition_of count w.key) p)

-- a request's piece of a partition, where it writes there
abbrev pub piece_of : ℕ → ℕ → ℕ → List Write → List Piece
piece_of place time p [] = []
piece_of place time p (w ∷ ws) = record { place = place; partition = p; time = time; writes = w ∷ ws } ∷ []

-- those of so many partitions from the partition p on
abbrev pub pieces_from : ℕ → ℕ → ℕ → List Write → ℕ → ℕ → List Piece
pieces_from count place time ws p zero = []
pieces_from count place time ws p (suc more) = piece_of place time p (writes_on count p ws) ++ pieces_from count place time ws (suc p) more

-- the pieces of a request at this place and time that has these writes: one for each of so many partitions that it
-- writes, rising by partition
abbrev pub request_pieces : ℕ → ℕ → ℕ → List Write → List Piece
request_pieces count place time ws = pieces_from count place time ws 0 count
