-- Readers that are made from rows of passes and seats, and what they leave.
use Rattle.std.specs.Prelude.{◌≡◌, ℕ, suc, ◌<◌, ◌^◌, false, List, [], ◌∷◌, length, slice_index_or}
use Rattle.std.specs.Global.{Vec}
use Rattle.coco_types.specs.declared.call.Request.{Request}
use Rattle.coco_ast.specs.Tree.{Procedures}
use Rattle.coco_claim.specs.Seats.{Drawer, Round, new_seats}
use Rattle.coco_desks.specs.Desks.{HasRoom}
use Rattle.coco_query.specs.Reading.{FrozenPass}
use Rattle.coco_query.specs.Readers.{Leaves}
use Rattle.coco_query.specs.declared.crew.Crew.{Crew}
use Rattle.coco_query.specs.declared.readers.Reader.{Reader}

-- a reader that has done nothing yet
abbrev pub reader_of : ℕ → Vec FrozenPass → Drawer → Reader
reader_of reader passes seat = record { reader = reader; passes = passes; seat = seat; transcript = record { readings = []; passed = [] }; replies = []; is_done = false }

-- one for each row and seat, from this number on
abbrev pub readers_of : ℕ → List (Vec FrozenPass) → List Drawer → List Reader
readers_of reader (row ∷ rows) (seat ∷ seats) = reader_of reader row seat ∷ readers_of (suc reader) rows seats
readers_of reader rows seats = []

-- claims of so many requests with a new seat for each reader, and room for the readers and for what they leave
pub record IsCrew (requests readers : ℕ) (crew : Crew) : Type 0 where
  pub numbers : crew.claims.n ≡ requests
  pub count : crew.claims.seats ≡ readers
  pub few : readers < 2 ^ 32
  pub seats_are : crew.seats.items ≡ new_seats crew.claims
  pub back_room : HasRoom readers crew.back
  pub readers_room : HasRoom readers crew.readers
  pub transcripts_room : HasRoom readers crew.left.transcripts
  pub replies_room : HasRoom readers crew.left.replies

-- each reader leaves so much
abbrev pub LeavesEach : Procedures → List Request → ℕ → ℕ → List Reader → List Reader → Type 0
LeavesEach procs requests count gate before after =
    (place : ℕ) (d : Reader) → place < length before → Leaves procs requests count gate (slice_index_or before place d) (slice_index_or after place d)

-- the readers of these rows and of the claims' seats have left so much
pub record HaveLeft (procs : Procedures) (requests : List Request) (count gate : ℕ) (rows : List (Vec FrozenPass)) (claims : Round) (after : List Reader) : Type 0 where
  pub as_many : length after ≡ claims.seats
  pub each : (n : ℕ) (d : Reader) → n < claims.seats
      → Leaves procs requests count gate (reader_of n (slice_index_or rows n d.passes) (slice_index_or (new_seats claims) n d.seat)) (slice_index_or after n d)
