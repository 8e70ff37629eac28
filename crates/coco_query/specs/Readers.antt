-- What a reader of tables needs, and what it leaves.
use Rattle.std.specs.Prelude.{◌≡◌, ℕ, ◌+◌, ◌<◌, true, List, [], ◌∷◌, ◌++◌, map, length, Some}
use Rattle.std.specs.List.{AllByRecursion, flat_map, slice_get}
use Rattle.coco_types.specs.declared.call.Reply.{Reply}
use Rattle.coco_types.specs.declared.call.Request.{Request}
use Rattle.coco_ast.specs.Tree.{Procedures}
use Rattle.coco_claim.specs.Numbers.{times}
use Rattle.coco_claim.specs.Seats.{Drawer, Round, has_ended}
use Rattle.coco_desks.specs.Gains.{AreOf, AreSame}
use Rattle.coco_eval.specs.declared.machine.Given.{Given}
use Rattle.coco_gate.specs.declared.passes.Passage.{Passage}
use Rattle.coco_seen.specs.Notes.{Lock}
use Rattle.coco_query.specs.Reading.{EndsOn, Reads}
use Rattle.coco_query.specs.declared.readers.Reader.{Reader}
use Rattle.coco_query.specs.declared.readers.Reading.{Reading}
use Rattle.coco_query.specs.declared.readers.Replied.{Replied}

-- a pass of each table, and a seat of the claims
pub record IsSeated (tables : List Lock) (claims : Round) (reader : Reader) : Type 0 where
  pub locks : AreOf tables reader.passes.items
  pub seat : reader.seat.claims ≡ claims

-- ---- readings

-- the reading is of the request at its place, and the call's run has this reply on every map that has what was read, and
-- needs no other keys
pub record IsReading (procs : Procedures) (requests : List Request) (r : Reading) (reply : Reply) : Type 0 where
  pub request : Request
  pub placed : slice_get requests r.place ≡ Some request
  pub ends : EndsOn procs request.call r.had reply

-- all that readings asked for and got, in order
abbrev pub had_by : List Reading → List Given
had_by rs = flat_map (λ (r : Reading). r.had) rs

abbrev pub places_of : List Reading → List ℕ
places_of rs = map (λ (r : Reading). r.place) rs

-- the points of a reading: 1 where it begins, and 2 where it has ended
abbrev pub points_of : ℕ → ℕ → Reading → List Passage
points_of gate reader r = record { gate = gate; worker = reader; point = 1 } ∷ record { gate = gate; worker = reader; point = 2 } ∷ []

-- ---- requests that were read for

pub record Served : Type 0 where
  pub reading : Reading
  pub reply : Reply

abbrev pub IsServed : Procedures → List Request → Served → Type 0
IsServed procs requests s = IsReading procs requests s.reading s.reply

abbrev pub reading_of : Served → Reading
reading_of s = s.reading

abbrev pub replied : Served → Replied
replied s = record { place = s.reading.place; reply = s.reply }

-- ---- readers

-- The reader has read for these requests more, in this order: it asked the tables for what their calls need and for
-- nothing else, and passed the gate's points of each, and no others.
pub record HasRead (procs : Procedures) (requests : List Request) (count gate : ℕ) (before after : Reader) (served : List Served) : Type 0 where
  pub each : AllByRecursion (IsServed procs requests) served
  pub readings : after.transcript.readings ≡ before.transcript.readings ++ map reading_of served
  pub replies : after.replies ≡ before.replies ++ map replied served
  pub passed : after.transcript.passed ≡ before.transcript.passed ++ flat_map (points_of gate before.reader) (map reading_of served)
  pub reads : Reads count before.passes.items after.passes.items (had_by (map reading_of served))

-- They are the requests at the places that its seat drew, and the seat has come to its end.
pub record HasDrawn (count : ℕ) (before after : Drawer) (served : List Served) : Type 0 where
  pub claims : after.claims ≡ before.claims
  pub ended : has_ended after ≡ true
  pub places : (place : ℕ) → place < count → times place after.drawn ≡ times place before.drawn + times place (places_of (map reading_of served))

-- The passes are the same, and a reader that is done has read for what its seat drew.
pub record Leaves (procs : Procedures) (requests : List Request) (count gate : ℕ) (before after : Reader) : Type 0 where
  pub same : AreSame before.passes.items after.passes.items
  pub reader : after.reader ≡ before.reader
  pub read : after.is_done ≡ true → (served : List Served) × HasRead procs requests count gate before after served × HasDrawn (length requests) before.seat after.seat served
