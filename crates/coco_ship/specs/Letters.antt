-- The letters of the ship phase.
use Rattle.std.specs.Prelude.{◌≡◌, ◌≢◌, ◌≤◌, ℕ, List, All as Every, Contains, Option, Some, ◌⊎◌}
use Rattle.std.specs.FinMap.{get}
use Rattle.coco_types.specs.RowKey.{RowKey}
use Rattle.coco_types.specs.declared.value.Value.{Value}
use Rattle.coco_types.specs.declared.call.Piece.{Piece}
use Rattle.coco_types.specs.declared.call.Write.{Write}
use Rattle.coco_msg.specs.declared.message.Message.{Message}
use Rattle.coco_msg.specs.declared.message.Message.TheVariants.{Ship, Total, Missing, All}
use Rattle.coco_msg.specs.Bytes.{bytes_of, IsMessage}
use Rattle.coco_net.specs.declared.letter.Letter.{Letter}
use Rattle.coco_net.specs.declared.letter.Posted.{Posted}
use Rattle.coco_copy.specs.CopyState.{CopyState}
use Rattle.coco_ship.specs.declared.ring.Ring.{Ring}
use Rattle.coco_ship.specs.Placing.{holder_of, primary_of}

abbrev pub ship_of : ℕ → Piece → Message
ship_of epoch x = Ship epoch x.partition x.place x.time x.writes

abbrev pub letter_of : ℕ → Message → Letter
letter_of from m = record { from = from; bytes = bytes_of m }

abbrev pub posted_of : ℕ → ℕ → Message → Posted
posted_of from to m = record { to = to; letter = letter_of from m }

-- a copy's All for its primary
abbrev pub all_of : Ring → ℕ → ℕ → ℕ → Posted
all_of ring epoch p j = posted_of (holder_of ring p j) (primary_of ring p) (All epoch p)

-- the message is none of the ship phase of this epoch
abbrev pub IsOther : ℕ → Message → Type 0
IsOther epoch (Ship of p place time writes) = of ≢ epoch
IsOther epoch (Total of p places) = of ≢ epoch
IsOther epoch (Missing of p places) = of ≢ epoch
IsOther epoch (All of p) = of ≢ epoch
IsOther epoch _ = Unit {0}

-- no letter of the ship phase of this epoch is among these
abbrev pub AreOther : ℕ → List Posted → Type 0
AreOther epoch posts = (s : Posted) (m : Message) → Contains posts s → IsMessage m → s.letter.bytes ≡ bytes_of m → IsOther epoch m

-- a row was written by a Ship of the partition and epoch among these letters, which can be read
abbrev pub IsShipped : ℕ → ℕ → List Letter → RowKey → Option (ℕ × Option Value) → Type 0
IsShipped epoch p letters k entry = (from : ℕ) × (x : Piece) × (w : Write) × Contains letters (letter_of from (ship_of epoch x)) × (x.partition ≡ p)
    × Contains x.writes w × (w.key ≡ k) × (entry ≡ Some (x.time, w.value)) × IsMessage (ship_of epoch x)

-- a copy whose rows are as before but for those that these letters shipped
pub record Gains (epoch p : ℕ) (letters : List Letter) (old new : CopyState) : Type 0 where
  pub epoch_stays : new.epoch ≡ old.epoch
  pub stable_stays : new.stable ≡ old.stable
  pub pending : (k : RowKey) → (get new.pending k ≡ get old.pending k) ⊎ IsShipped epoch p letters k (get new.pending k)

-- the places of these letters are those of nodes and coordinator
pub record IsInside (s : Posted) : Type 0 where
  pub from : s.letter.from ≤ 8
  pub to : s.to ≤ 8

abbrev pub AreInside : List Posted → Type 0
AreInside posts = Every IsInside posts
