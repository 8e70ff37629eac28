-- What holds between the exchanges of a ship phase.
use Rattle.std.specs.Prelude.{◌≡◌, ℕ, ◌+◌, ◌≤◌, true, false, is_some, List, [], Contains, Some, ◌⊎◌}
use Rattle.std.specs.List.{slice_get}
use Rattle.coco_types.specs.declared.call.Piece.{Piece}
use Rattle.coco_msg.specs.declared.message.Message.{Message}
use Rattle.coco_msg.specs.declared.message.Message.TheVariants.{Ship, Total, Missing, All}
use Rattle.coco_msg.specs.Bytes.{bytes_of, IsMessage}
use Rattle.coco_net.specs.declared.letter.Posted.{Posted}
use Rattle.coco_copy.specs.CopyState.{CopyState}
use Rattle.coco_ship.specs.declared.line.Line.{Line}
use Rattle.coco_ship.specs.declared.ring.Ring.{Ring}
use Rattle.coco_ship.specs.Placing.{holder_of, table_of, IsCopy}
use Rattle.coco_ship.specs.Sets.{is_in}
use Rattle.coco_ship.specs.Pieces.{IsOf}
use Rattle.coco_ship.specs.Letters.{all_of}
use Rattle.coco_ship.specs.Lines.{AreLines, ArePlacesOf}
use Rattle.coco_ship.specs.Shipping.{AreWritten}

-- All pieces of a partition but those at these places are there.
abbrev pub AreThere : Ring → List Piece → List Line → ℕ → ℕ → List ℕ → Type 0
AreThere ring pieces lines from p places = (j : ℕ) → IsCopy ring p j → holder_of ring p j ≡ from → (line : Line) → slice_get lines (table_of ring p j) ≡ Some line
    → (x : Piece) → IsOf pieces p x → is_in places x.place ≡ false → is_in line.there x.place ≡ true

-- what a message of this epoch tells is so
abbrev pub IsHonest : Ring → ℕ → List Piece → List Line → ℕ → Message → Type 0
IsHonest ring epoch pieces lines from (Ship of p place time writes) = of ≡ epoch → IsOf pieces p (record { place = place; partition = p; time = time; writes = writes })
IsHonest ring epoch pieces lines from (Total of p places) = of ≡ epoch → ArePlacesOf pieces p places
IsHonest ring epoch pieces lines from (Missing of p places) = of ≡ epoch → AreThere ring pieces lines from p places
IsHonest ring epoch pieces lines from (All of p) = of ≡ epoch → AreThere ring pieces lines from p []
IsHonest ring epoch pieces lines from _ = Unit {0}

abbrev pub AreHonest : Ring → ℕ → List Piece → List Line → List Posted → Type 0
AreHonest ring epoch pieces lines posts = (s : Posted) (m : Message) → Contains posts s → IsMessage m → s.letter.bytes ≡ bytes_of m → IsHonest ring epoch pieces lines s.letter.from m

-- The lines fit the pieces and the tables, what pends was written by pieces, and all letters sent tell what is so.
pub record IsGoing (ring : Ring) (epoch : ℕ) (pieces : List Piece) (sent : List Posted) (lines : List Line) (tables : List CopyState) : Type 0 where
  pub lines_fit : AreLines ring pieces lines tables
  pub written : AreWritten ring pieces tables
  pub honest : AreHonest ring epoch pieces lines sent

-- a line of this node whose All the primary hasn't
pub record IsWaitedFor (ring : Ring) (lines : List Line) (node : ℕ) : Type 0 where
  pub p : ℕ
  pub j : ℕ
  pub is_copy : IsCopy ring p j
  pub holds : holder_of ring p j ≡ node
  pub line : Line
  pub here : slice_get lines (table_of ring p j) ≡ Some line
  pub waits : line.is_done ≡ false

-- every line of this node is done
abbrev pub HasAnswered : Ring → List Line → ℕ → Type 0
HasAnswered ring lines node = (p j : ℕ) → IsCopy ring p j → holder_of ring p j ≡ node → (line : Line) → slice_get lines (table_of ring p j) ≡ Some line → line.is_done ≡ true

-- A line is done from then on where its All is among the given letters, and only there.
pub record IsDoneBy (ring : Ring) (epoch : ℕ) (given : List Posted) (p j : ℕ) (l : Line) (t : CopyState) (l' : Line) (t' : CopyState) : Type 0 where
  pub stays : l.is_done ≡ true → l'.is_done ≡ true
  pub only : l'.is_done ≡ true → (l.is_done ≡ true) ⊎ Contains given (all_of ring epoch p j)
  pub given_all : Contains given (all_of ring epoch p j) → l'.is_done ≡ true

-- A copy was told the places of all pieces, has them all, and has yet to answer.
pub record IsTold (pieces : List Piece) (p : ℕ) (line : Line) : Type 0 where
  pub total : is_some line.total ≡ true
  pub asked : line.is_asked ≡ true
  pub there : (x : Piece) → IsOf pieces p x → is_in line.there x.place ≡ true

-- so for each copy whose All the primary hasn't
abbrev pub AreTold : Ring → List Piece → List Line → Type 0
AreTold ring pieces lines = (p j : ℕ) → IsCopy ring p j → (line : Line) → slice_get lines (table_of ring p j) ≡ Some line → line.is_done ≡ false → IsTold pieces p line

-- The count of faults rose, or else it is as before and this holds.
abbrev pub Unless : ℕ → ℕ → Type 0 → Type 0
Unless faults faults_after Fact = (faults + 1 ≤ faults_after) ⊎ ((faults_after ≡ faults) × Fact)

-- copies that were told all and have all have answered All
abbrev pub Answered : Ring → List Line → List CopyState → List Line → Type 0
Answered ring lines tables lines_after = (pieces : List Piece) → AreLines ring pieces lines tables → AreTold ring pieces lines → (node : ℕ) → HasAnswered ring lines_after node
