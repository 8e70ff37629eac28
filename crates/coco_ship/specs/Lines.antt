-- What a primary and a copy know of each other, what is noted of pieces before, and what holds of both.
use Rattle.std.specs.Prelude.{◌≡◌, ◌≢◌, ℕ, ◌*◌, ◌<◌, ◌≤◌, [], true, false, length, List, Option, Some, None, MatchOption, ◌⊎◌}
use Rattle.std.specs.List.{slice_get, slice_index_or}
use Rattle.std.specs.Option.{option_map}
use Rattle.coco_types.specs.declared.call.Piece.{Piece}
use Rattle.coco_copy.specs.CopyState.{CopyState}
use Rattle.coco_ship.specs.declared.line.Line.{Line}
use Rattle.coco_ship.specs.declared.line.Noted.{Noted}
use Rattle.coco_ship.specs.declared.ring.Ring.{Ring}
use Rattle.coco_ship.specs.Placing.{table_of, IsCopy}
use Rattle.coco_ship.specs.Sets.{is_in, Adds, HasSame}
use Rattle.coco_ship.specs.Pieces.{covers, IsOf}

abbrev pub none_noted : Noted
none_noted = record { all = []; there = [] }

-- These are the places of all pieces of the partition, and no others.
pub record ArePlacesOf (pieces : List Piece) (p : ℕ) (places : List ℕ) : Type 0 where
  pub each : (x : Piece) → IsOf pieces p x → is_in places x.place ≡ true
  pub only : (q : ℕ) → is_in places q ≡ true → (x : Piece) × IsOf pieces p x × (x.place ≡ q)

-- Every place that is there is that of a piece whose writes pend, and the primary knows only such places to be there.
pub record IsLine (pieces : List Piece) (p : ℕ) (line : Line) (table : CopyState) : Type 0 where
  pub there : (x : Piece) → IsOf pieces p x → is_in line.there x.place ≡ true → covers table x.time x.writes ≡ true
  pub total : MatchOption line.total (Unit {0}) (ArePlacesOf pieces p)
  pub all : ArePlacesOf pieces p line.all
  pub lacking : (x : Piece) → IsOf pieces p x → is_in line.lacking x.place ≡ false → is_in line.there x.place ≡ true
  pub done : line.is_done ≡ true → (x : Piece) → IsOf pieces p x → is_in line.there x.place ≡ true

-- a fact of what each copy has in a list, and of its table
abbrev pub OfEach : {X : Type 0} → Ring → (ℕ → ℕ → X → CopyState → Type 0) → List X → List CopyState → Type 0
OfEach {X} ring R xs tables = (p j : ℕ) → IsCopy ring p j → (x : X) (table : CopyState) → slice_get xs (table_of ring p j) ≡ Some x → slice_get tables (table_of ring p j) ≡ Some table → R p j x table

abbrev pub AreLines : Ring → List Piece → List Line → List CopyState → Type 0
AreLines ring pieces lines tables = OfEach ring (λ p j. IsLine pieces p) lines tables

-- every piece of which the writes pend is there
abbrev pub IsCounted : List Piece → ℕ → Line → CopyState → Type 0
IsCounted pieces p line table = (x : Piece) → IsOf pieces p x → covers table x.time x.writes ≡ true → is_in line.there x.place ≡ true

abbrev pub AreCounted : Ring → List Piece → List Line → List CopyState → Type 0
AreCounted ring pieces lines tables = OfEach ring (λ p j. IsCounted pieces p) lines tables

-- no primary has an All
abbrev pub AreWaiting : Ring → List Line → Type 0
AreWaiting ring lines = (p j : ℕ) → IsCopy ring p j → (line : Line) → slice_get lines (table_of ring p j) ≡ Some line → line.is_done ≡ false

-- The lines of a phase that begins: they fit the pieces and tables, what pends is there, and no primary has an All.
pub record AreFirst (ring : Ring) (pieces : List Piece) (lines : List Line) (tables : List CopyState) : Type 0 where
  pub count : length lines ≡ ring.partitions * ring.copies
  pub fit : AreLines ring pieces lines tables
  pub counted : AreCounted ring pieces lines tables
  pub waiting : AreWaiting ring lines

-- A piece is noted, and as there where its writes pend.
pub record Notes (old : Noted) (table : CopyState) (x : Piece) (new : Noted) : Type 0 where
  pub all : Adds old.all new.all x.place
  pub there : (q : ℕ) → is_in new.there q ≡ true → (is_in old.there q ≡ true) ⊎ ((q ≡ x.place) × (covers table x.time x.writes ≡ true))
  pub there_stays : (q : ℕ) → is_in old.there q ≡ true → is_in new.there q ≡ true
  pub counts : covers table x.time x.writes ≡ true → is_in new.there x.place ≡ true

-- It is noted for the first copies of its partition; what is noted for others is as before.
pub record NotesPiece (ring : Ring) (x : Piece) (count : ℕ) (old : List Noted) (tables : List CopyState) (new : List Noted) : Type 0 where
  pub noted : (j : ℕ) → j < count → (before after : Noted) (table : CopyState) → slice_get old (table_of ring x.partition j) ≡ Some before
      → slice_get new (table_of ring x.partition j) ≡ Some after → slice_get tables (table_of ring x.partition j) ≡ Some table → Notes before table x after
  pub later : (j : ℕ) → count ≤ j → IsCopy ring x.partition j → slice_get new (table_of ring x.partition j) ≡ slice_get old (table_of ring x.partition j)
  pub others : (p j : ℕ) → IsCopy ring p j → p ≢ x.partition → slice_get new (table_of ring p j) ≡ slice_get old (table_of ring p j)

-- The places of the pieces so far are noted, and those of which the writes pend.
pub record IsNoted (pieces so_far : List Piece) (p : ℕ) (noted : Noted) (table : CopyState) : Type 0 where
  pub there : (x : Piece) → IsOf pieces p x → is_in noted.there x.place ≡ true → covers table x.time x.writes ≡ true
  pub counts : (x : Piece) → IsOf so_far p x → covers table x.time x.writes ≡ true → is_in noted.there x.place ≡ true
  pub all : ArePlacesOf so_far p noted.all

abbrev pub AreNoted : Ring → List Piece → List Piece → List Noted → List CopyState → Type 0
AreNoted ring pieces so_far notes tables = OfEach ring (λ p j. IsNoted pieces so_far p) notes tables

-- The line has what was noted, and its primary knows of no piece that it is there.
pub record Begins (noted : Noted) (line : Line) : Type 0 where
  pub all : HasSame noted.all line.all
  pub lacking : HasSame noted.all line.lacking
  pub there : line.there ≡ noted.there
  pub total : line.total ≡ None
  pub is_done : line.is_done ≡ false

abbrev pub AllBegin : List Noted → List Line → Type 0
AllBegin notes lines = (i : ℕ) (noted : Noted) (line : Line) → i < length lines → Begins (slice_index_or notes i noted) (slice_index_or lines i line)

-- a line that was answered: it isn't asked any more
abbrev pub answered : Line → Line
answered line = record line { is_asked = false }

-- the lines of one partition are answered, the others are as before
pub record AreAnswered (q p : ℕ) (old new : Option Line) : Type 0 where
  pub here : q ≡ p → new ≡ option_map answered old
  pub others : q ≢ p → new ≡ old
