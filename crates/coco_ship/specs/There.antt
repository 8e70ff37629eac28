-- Which pieces are there for a copy, and what the letters of the phase say.
use Rattle.std.specs.Prelude.{◌≡◌, ℕ, ◌*◌, ◌++◌, true, false, length, List, All as Each, Contains, IfSome, Some, ◌⊎◌}
use Rattle.std.specs.List.{slice_get}
use Rattle.coco_types.specs.declared.call.Piece.{Piece}
use Rattle.coco_msg.specs.declared.message.Message.TheVariants.{Total}
use Rattle.coco_msg.specs.Bytes.{IsMessage}
use Rattle.coco_net.specs.declared.letter.Posted.{Posted}
use Rattle.coco_copy.specs.CopyState.{CopyState}
use Rattle.coco_ship.specs.declared.line.Line.{Line}
use Rattle.coco_ship.specs.declared.ring.Ring.{Ring}
use Rattle.coco_ship.specs.Placing.{holder_of, table_of, IsCopy}
use Rattle.coco_ship.specs.Sets.{is_in}
use Rattle.coco_ship.specs.Pieces.{covers, IsOf}
use Rattle.coco_ship.specs.Letters.{posted_of, ship_of}
use Rattle.coco_ship.specs.Lines.{ArePlacesOf, OfEach}
use Rattle.coco_ship.specs.Sending.{answer_of, ask_of, reply_of}
use Rattle.coco_ship.specs.Shipping.{news}

-- A piece is there for a copy where what pended at the start for each of its writes had at least its time, or where a
-- Ship of it was given to the copy's node.
abbrev pub IsThere : Ring → ℕ → ℕ → ℕ → CopyState → List Posted → Piece → Type 0
IsThere ring epoch p j start given x =
    (covers start x.time x.writes ≡ true) ⊎ ((from : ℕ) × Contains given (posted_of from (holder_of ring p j) (ship_of epoch x)) × IsMessage (ship_of epoch x))

-- each piece is there for each copy of its partition
abbrev pub AreAllThere : Ring → ℕ → List Piece → List CopyState → List Posted → Type 0
AreAllThere ring epoch pieces starts given = (p j : ℕ) → IsCopy ring p j → (x : Piece) → IsOf pieces p x → IfSome (slice_get starts (table_of ring p j)) (λ start. IsThere ring epoch p j start given x)

-- These are the places of the partition's pieces that aren't there, and no others.
pub record AreMissing (ring : Ring) (epoch : ℕ) (pieces : List Piece) (p j : ℕ) (start : CopyState) (given : List Posted) (places : List ℕ) : Type 0 where
  pub only : (q : ℕ) → is_in places q ≡ true → (x : Piece) × IsOf pieces p x × (x.place ≡ q)
  pub lacked : (x : Piece) → IsOf pieces p x → is_in places x.place ≡ true → IsThere ring epoch p j start given x → ⊥
  pub others : (x : Piece) → IsOf pieces p x → is_in places x.place ≡ false → IsThere ring epoch p j start given x

-- They were so when a first part of the letters had been given.
pub record WereMissing (ring : Ring) (epoch : ℕ) (pieces : List Piece) (p j : ℕ) (start : CopyState) (given : List Posted) (places : List ℕ) : Type 0 where
  pub so_far : List Posted
  pub later : List Posted
  pub moment : given ≡ so_far ++ later
  pub missing : AreMissing ring epoch pieces p j start so_far places

-- what a primary tells a copy: a piece of the partition, or the places of all
abbrev pub IsAsk : Ring → ℕ → List Piece → ℕ → ℕ → Posted → Type 0
IsAsk ring epoch pieces p j s =
    ((x : Piece) × IsOf pieces p x × (s ≡ ask_of ring p j (ship_of epoch x)) × IsMessage (ship_of epoch x))
    ⊎ ((places : List ℕ) × ArePlacesOf pieces p places × (s ≡ ask_of ring p j (Total epoch p places)) × IsMessage (Total epoch p places))

-- what a copy answers: the places of what was missing, and All where nothing was
abbrev pub IsReply : Ring → ℕ → List Piece → ℕ → ℕ → CopyState → List Posted → Posted → Type 0
IsReply ring epoch pieces p j start given s =
    (missing : List ℕ) × WereMissing ring epoch pieces p j start given missing × (s ≡ reply_of ring p j (answer_of epoch p missing)) × IsMessage (answer_of epoch p missing)

-- a letter of the phase, between a primary and a copy, that says what is so
abbrev pub IsRight : Ring → ℕ → List Piece → List CopyState → List Posted → Posted → Type 0
IsRight ring epoch pieces starts given s = (p : ℕ) × (j : ℕ) × IsCopy ring p j
    × (IsAsk ring epoch pieces p j s ⊎ ((start : CopyState) × (slice_get starts (table_of ring p j) ≡ Some start) × IsReply ring epoch pieces p j start given s))

abbrev pub AreRight : Ring → ℕ → List Piece → List CopyState → List Posted → List Posted → Type 0
AreRight ring epoch pieces starts given sent = Each (IsRight ring epoch pieces starts given) sent

-- Of the places of its pieces a line has those of the pieces that are there.
pub record IsExact (ring : Ring) (epoch : ℕ) (pieces : List Piece) (given : List Posted) (p j : ℕ) (line : Line) (start : CopyState) : Type 0 where
  pub only : (x : Piece) → IsOf pieces p x → is_in line.there x.place ≡ true → IsThere ring epoch p j start given x
  pub each : (x : Piece) → IsOf pieces p x → IsThere ring epoch p j start given x → is_in line.there x.place ≡ true

abbrev pub AreExact : Ring → ℕ → List Piece → List CopyState → List Posted → List Line → Type 0
AreExact ring epoch pieces starts given lines = OfEach ring (IsExact ring epoch pieces given) lines starts

-- as more letters are given, lines that were exact are so still
abbrev pub StaysExact : Ring → ℕ → List Piece → List Posted → List Line → List Posted → List Line → Type 0
StaysExact ring epoch pieces given lines given_after lines_after =
    (starts : List CopyState) (so_far : List Posted) → AreExact ring epoch pieces starts so_far lines → AreExact ring epoch pieces starts (so_far ++ news given given_after) lines_after

-- where lines were exact, the letters that are sent are right
abbrev pub AddsRight : Ring → ℕ → List Piece → List Posted → List Posted → List Line → List Posted → List Posted → Type 0
AddsRight ring epoch pieces sent given lines sent_after given_after =
    (starts : List CopyState) (so_far : List Posted) → length starts ≡ ring.partitions * ring.copies → AreExact ring epoch pieces starts so_far lines
    → AreRight ring epoch pieces starts (so_far ++ news given given_after) (news sent sent_after)

-- where lines were exact, each piece is there now
abbrev pub HaveCome : Ring → ℕ → List Piece → List Posted → List Line → List Posted → Type 0
HaveCome ring epoch pieces given lines given_after =
    (starts : List CopyState) (so_far : List Posted) → AreExact ring epoch pieces starts so_far lines → AreAllThere ring epoch pieces starts (so_far ++ news given given_after)
