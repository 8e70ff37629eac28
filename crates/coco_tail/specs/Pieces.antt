-- What the requests of an epoch wrote, piece by piece.
use Rattle.std.specs.Prelude.{ℕ, suc, nat_eq, if◌then◌else◌, List, [], ◌∷◌, ◌++◌}
use Rattle.coco_types.specs.declared.call.Done.{Done}
use Rattle.coco_types.specs.declared.call.Piece.{Piece}
use Rattle.coco_types.specs.declared.call.Request.{Request}
use Rattle.coco_ast.specs.Keyed.{Rows}
use Rattle.coco_ast.specs.Meaning.{run}
use Rattle.coco_ast.specs.Tree.{Procedures}
use Rattle.coco_pieces.specs.Pieces.{request_pieces}

-- the place of a request in its epoch, counted from 0
abbrev pub place_of : List Request → ℕ → ℕ
place_of [] id = 0
place_of (r ∷ rs) id = if nat_eq id r.id then 0 else suc (place_of rs id)

-- the pieces of Dones that are run one after another from a map on, in the order of the Dones, so that of two writes
-- of one key the later one stands behind
abbrev pub pieces_of : Procedures → ℕ → List Request → Rows → List Done → List Piece
pieces_of ps count requests m [] = []
pieces_of ps count requests m (d ∷ ds) = request_pieces count (place_of requests d.id) d.time (run ps d.call m).writes ++ pieces_of ps count requests (run ps d.call m).rows ds
