-- What primaries ask, and what copies answer.
use Rattle.std.specs.Prelude.{◌≡◌, ℕ, ◌==◌, ◌<◌, true, false, is_some, length, List, [], ◌∷◌, ◌++◌, Contains, Some, ◌⊎◌, if◌then◌else◌}
use Rattle.std.specs.List.{slice_get}
use Rattle.coco_types.specs.declared.call.Piece.{Piece}
use Rattle.coco_msg.specs.declared.message.Message.{Message}
use Rattle.coco_msg.specs.declared.message.Message.TheVariants.{Total, Missing, All}
use Rattle.coco_msg.specs.Bytes.{bytes_of, IsMessage}
use Rattle.coco_net.specs.declared.letter.Posted.{Posted}
use Rattle.coco_ship.specs.declared.line.Line.{Line}
use Rattle.coco_ship.specs.declared.ring.Ring.{Ring}
use Rattle.coco_ship.specs.Placing.{holder_of, primary_of, table_of, IsCopy}
use Rattle.coco_ship.specs.Sets.{is_in, Misses}
use Rattle.coco_ship.specs.Pieces.{IsOf}
use Rattle.coco_ship.specs.Letters.{posted_of, ship_of}

-- a message to a copy from its primary, and the other way round
abbrev pub ask_of : Ring → ℕ → ℕ → Message → Posted
ask_of ring p j m = posted_of (primary_of ring p) (holder_of ring p j) m

abbrev pub reply_of : Ring → ℕ → ℕ → Message → Posted
reply_of ring p j m = posted_of (holder_of ring p j) (primary_of ring p) m

-- a list of letters that has grown, by some of a kind for the first copies of a partition
pub record Adds (old new : List Posted) (Kind : Posted → Type 0) : Type 0 where
  pub stay : (s : Posted) → Contains old s → Contains new s
  pub only : (s : Posted) → Contains new s → Contains old s ⊎ Kind s

-- no bytes yet, or those of the message
abbrev pub AreNoneOr : Message → List ℕ → Type 0
AreNoneOr m bytes = (bytes ≡ []) ⊎ (bytes ≡ bytes_of m)

-- the piece is shipped to those of the first copies of which its primary doesn't know that they have it
pub record ShipsPiece (ring : Ring) (epoch : ℕ) (x : Piece) (lines : List Line) (count : ℕ) (old new : List Posted) : Type 0 where
  pub readable : IsMessage (ship_of epoch x)
  pub added : Adds old new (λ s. (j : ℕ) × (j < count) × (s ≡ ask_of ring x.partition j (ship_of epoch x)))
  pub sent : (j : ℕ) → j < count → (line : Line) → slice_get lines (table_of ring x.partition j) ≡ Some line → line.is_done ≡ false → is_in line.lacking x.place ≡ true
      → Contains new (ask_of ring x.partition j (ship_of epoch x))

-- the first copies of a partition are told the places of its pieces, unless they are done
pub record TellsTotals (ring : Ring) (epoch p : ℕ) (lines : List Line) (count : ℕ) (old new : List Posted) : Type 0 where
  pub added : Adds old new (λ s. (j : ℕ) × (j < count) × ((line : Line) × (slice_get lines (table_of ring p j) ≡ Some line) × (s ≡ ask_of ring p j (Total epoch p line.all)) × IsMessage (Total epoch p line.all)))
  pub sent : (j : ℕ) → j < count → (line : Line) → slice_get lines (table_of ring p j) ≡ Some line → line.is_done ≡ false
      → Contains new (ask_of ring p j (Total epoch p line.all)) × IsMessage (Total epoch p line.all)

-- all that is asked in an exchange
pub record AreAsks (ring : Ring) (epoch : ℕ) (pieces : List Piece) (lines : List Line) (letters : List Posted) : Type 0 where
  pub only : (s : Posted) → Contains letters s → (p : ℕ) × (j : ℕ) × IsCopy ring p j
      × (((x : Piece) × IsOf pieces p x × (s ≡ ask_of ring p j (ship_of epoch x))) ⊎ ((line : Line) × (slice_get lines (table_of ring p j) ≡ Some line) × (s ≡ ask_of ring p j (Total epoch p line.all)) × IsMessage (Total epoch p line.all)))
  pub readable : (x : Piece) → Contains pieces x → IsMessage (ship_of epoch x)
  pub ships : (p j : ℕ) → IsCopy ring p j → (line : Line) → slice_get lines (table_of ring p j) ≡ Some line → line.is_done ≡ false
      → (x : Piece) → IsOf pieces p x → is_in line.lacking x.place ≡ true → Contains letters (ask_of ring p j (ship_of epoch x))
  pub totals : (p j : ℕ) → IsCopy ring p j → (line : Line) → slice_get lines (table_of ring p j) ≡ Some line → line.is_done ≡ false
      → Contains letters (ask_of ring p j (Total epoch p line.all)) × IsMessage (Total epoch p line.all)

-- All where nothing is missing, else what is missing
abbrev pub answer_of : ℕ → ℕ → List ℕ → Message
answer_of epoch p missing = if length missing == 0 then All epoch p else Missing epoch p missing

-- the message answers for a line that has a Total
pub record GivesAnswer (epoch p : ℕ) (line : Line) (m : Message) : Type 0 where
  pub total : List ℕ
  pub missing : List ℕ
  pub has_total : line.total ≡ Some total
  pub misses : Misses line.there total missing
  pub readable : IsMessage (answer_of epoch p missing)
  pub is : m ≡ answer_of epoch p missing

-- such an answer in a letter
pub record IsAnswer (ring : Ring) (epoch p j : ℕ) (line : Line) (s : Posted) : Type 0 where
  pub total : List ℕ
  pub missing : List ℕ
  pub has_total : line.total ≡ Some total
  pub misses : Misses line.there total missing
  pub readable : IsMessage (answer_of epoch p missing)
  pub is : s ≡ reply_of ring p j (answer_of epoch p missing)

-- the answer of one copy is added, none where it has nothing to answer
pub record Answers (ring : Ring) (epoch p j : ℕ) (line : Line) (old new : List Posted) : Type 0 where
  pub sent : is_some line.total ≡ true → line.is_asked ≡ true → (s : Posted) × IsAnswer ring epoch p j line s × (new ≡ old ++ s ∷ [])
  pub none : ((is_some line.total ≡ true) → (line.is_asked ≡ true) → ⊥) → new ≡ old

pub record AnswersOf (ring : Ring) (epoch p : ℕ) (lines : List Line) (count : ℕ) (old new : List Posted) : Type 0 where
  pub added : Adds old new (λ s. (j : ℕ) × (j < count) × ((line : Line) × (slice_get lines (table_of ring p j) ≡ Some line) × IsAnswer ring epoch p j line s))
  pub sent : (j : ℕ) → j < count → (line : Line) → slice_get lines (table_of ring p j) ≡ Some line → is_some line.total ≡ true → line.is_asked ≡ true
      → (s : Posted) × Contains new s × IsAnswer ring epoch p j line s

pub record AreAnswers (ring : Ring) (epoch : ℕ) (lines : List Line) (letters : List Posted) : Type 0 where
  pub only : (s : Posted) → Contains letters s → (p : ℕ) × (j : ℕ) × IsCopy ring p j × ((line : Line) × (slice_get lines (table_of ring p j) ≡ Some line) × IsAnswer ring epoch p j line s)
  pub sent : (p j : ℕ) → IsCopy ring p j → (line : Line) → slice_get lines (table_of ring p j) ≡ Some line → is_some line.total ≡ true → line.is_asked ≡ true
      → (s : Posted) × Contains letters s × IsAnswer ring epoch p j line s
