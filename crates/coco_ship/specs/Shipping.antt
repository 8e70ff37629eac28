-- What the ship phase asks of its caller, and what it answers.
use Rattle.std.specs.Prelude.{◌≡◌, ℕ, ◌+◌, ◌*◌, ◌<◌, ◌≤◌, List, All, Contains, IfSome, length, drop}
use Rattle.std.specs.List.{slice_get}
use Rattle.coco_types.specs.declared.call.Piece.{Piece}
use Rattle.coco_msg.specs.declared.message.Message.{Message}
use Rattle.coco_msg.specs.declared.message.Message.TheVariants as messages
use Rattle.coco_msg.specs.Bytes.{bytes_of}
use Rattle.coco_net.specs.declared.letter.Posted.{Posted}
use Rattle.coco_net.specs.Mail.{letters_to}
use Rattle.coco_copy.specs.CopyState.{CopyState}
use Rattle.coco_ship.specs.declared.ring.Ring.{Ring}
use Rattle.coco_ship.specs.declared.ship.TheConstants.{EXCHANGES}
use Rattle.coco_ship.specs.declared.ship.ShipFault.{ShipFault}
use Rattle.coco_ship.specs.declared.ship.ShipFault.TheVariants as faults
use Rattle.coco_ship.specs.Placing.{holder_of, table_of, IsCopy}
use Rattle.coco_ship.specs.Pieces.{HasPieces, IsWritten}
use Rattle.coco_ship.specs.Letters.{all_of, Gains}
use Rattle.coco_ship.specs.Exchanges.{AreExchanges, AreOwersAsked}

-- what pends in each copy was written by pieces of its partition
abbrev pub AreWritten : Ring → List Piece → List CopyState → Type 0
AreWritten ring pieces tables = (p j : ℕ) → IsCopy ring p j → IfSome (slice_get tables (table_of ring p j)) (IsWritten pieces p)

-- The tables stand in the order of partitions and copies, each in this epoch, with what early deliveries brought.
pub record AreBegun (ring : Ring) (epoch : ℕ) (pieces : List Piece) (tables : List CopyState) : Type 0 where
  pub count : length tables ≡ ring.partitions * ring.copies
  pub begun : All (λ t. t.epoch ≡ epoch) tables
  pub written : AreWritten ring pieces tables

-- what a list has gained at its end
abbrev pub news : List Posted → List Posted → List Posted
news old new = drop (length old) new

-- each copy has what the pieces of its partition make
abbrev pub AreWhole : Ring → ℕ → List Piece → List CopyState → Type 0
AreWhole ring epoch pieces tables = (p j : ℕ) → IsCopy ring p j → IfSome (slice_get tables (table_of ring p j)) (HasPieces epoch pieces p)

-- the All of each copy is among these letters
abbrev pub HaveAnswered : Ring → ℕ → List Posted → Type 0
HaveAnswered ring epoch given = (p j : ℕ) → IsCopy ring p j → Contains given (all_of ring epoch p j)

-- rows changed only where a Ship of them was given to the copy's node
abbrev pub GainOnly : Ring → ℕ → List Posted → List CopyState → List CopyState → Type 0
GainOnly ring epoch given old new = (p j : ℕ) → IsCopy ring p j
    → IfSome (slice_get old (table_of ring p j)) (λ before. IfSome (slice_get new (table_of ring p j)) (Gains epoch p (letters_to (holder_of ring p j) given) before))

-- an All that the node owes isn't among these letters
pub record Owes (ring : Ring) (epoch : ℕ) (given : List Posted) (node : ℕ) : Type 0 where
  pub p : ℕ
  pub j : ℕ
  pub is_copy : IsCopy ring p j
  pub holds : holder_of ring p j ≡ node
  pub lacks : Contains given (all_of ring epoch p j) → ⊥

-- So many exchanges, in each of which every copy that owes its All was sent a Total and the count of faults rose; and
-- the least node that owes an All.
pub record IsSilent (ring : Ring) (epoch : ℕ) (sent given : List Posted) (faults_old faults_new node : ℕ) : Type 0 where
  pub faults : faults_old + EXCHANGES ≤ faults_new
  pub exchanges : AreExchanges EXCHANGES (AreOwersAsked ring epoch given) sent faults_old faults_new
  pub owes : Owes ring epoch given node
  pub least : (p j : ℕ) → IsCopy ring p j → holder_of ring p j < node → Contains given (all_of ring epoch p j)

abbrev pub OnSilent : Ring → ℕ → List Posted → List Posted → ℕ → ℕ → ShipFault → Type 0
OnSilent ring epoch sent given faults_old faults_new (faults.Silent node) = IsSilent ring epoch sent given faults_old faults_new node
OnSilent ring epoch sent given faults_old faults_new faults.NoMemory = Unit {0}

-- the message is one of the ship phase of this epoch
abbrev pub IsPhase : ℕ → Message → Type 0
IsPhase epoch (messages.Ship of p place time writes) = of ≡ epoch
IsPhase epoch (messages.Total of p places) = of ≡ epoch
IsPhase epoch (messages.Missing of p places) = of ≡ epoch
IsPhase epoch (messages.All of p) = of ≡ epoch
IsPhase epoch _ = ⊥

abbrev pub ArePhase : ℕ → List Posted → Type 0
ArePhase epoch posts = All (λ s. (m : Message) × IsPhase epoch m × (s.letter.bytes ≡ bytes_of m)) posts
