-- What a message, and what letters do to lines and tables.
use Rattle.std.specs.Prelude.{◌≡◌, ℕ, zero, suc, true, false, is_some, map, List, [], ◌++◌, Contains, Some, ◌⊎◌}
use Rattle.std.specs.List.{slice_get}
use Rattle.std.specs.FinMap.{get}
use Rattle.coco_types.specs.RowKey.{RowKey}
use Rattle.coco_types.specs.declared.call.Piece.{Piece}
use Rattle.coco_types.specs.declared.call.Write.{Write}
use Rattle.coco_msg.specs.declared.message.Message.{Message}
use Rattle.coco_msg.specs.declared.message.Message.TheVariants.{Ship, Total, Missing, All}
use Rattle.coco_msg.specs.Bytes.{IsMessage}
use Rattle.coco_net.specs.declared.letter.Letter.{Letter}
use Rattle.coco_copy.specs.CopyState.{CopyState}
use Rattle.coco_ship.specs.declared.line.Line.{Line}
use Rattle.coco_ship.specs.declared.ring.Ring.{Ring}
use Rattle.coco_ship.specs.Placing.{holder_of, primary_of, table_of, IsCopy}
use Rattle.coco_ship.specs.Sets.{is_in, Adds, Keeps}
use Rattle.coco_ship.specs.Pieces.{covers, covers_at}
use Rattle.coco_net.specs.declared.letter.Posted.{Posted}
use Rattle.coco_net.specs.Mail.{letters_to}
use Rattle.coco_ship.specs.Letters.{posted_of, ship_of, Gains}
use Rattle.coco_ship.specs.Sending.{reply_of}

-- what pends is never of an earlier time than before
abbrev pub Grows : CopyState → CopyState → Type 0
Grows old new = (k : RowKey) (time : ℕ) → covers_at (get old.pending k) time ≡ true → covers_at (get new.pending k) time ≡ true

-- Some of these writes pend now, at this time.
pub record Puts (time : ℕ) (writes : List Write) (old new : CopyState) : Type 0 where
  pub epoch_stays : new.epoch ≡ old.epoch
  pub stable_stays : new.stable ≡ old.stable
  pub pending : (k : RowKey) → (get new.pending k ≡ get old.pending k) ⊎ ((w : Write) × Contains writes w × (w.key ≡ k) × (get new.pending k ≡ Some (time, w.value)))
  pub grows : Grows old new

-- the line of copy j of partition p is the one that the message from a place to a node speaks of
abbrev pub Speaks : Ring → ℕ → ℕ → Message → ℕ → ℕ → Type 0
Speaks ring node from (Ship epoch q place time writes) p j = (q ≡ p) × (holder_of ring p j ≡ node)
Speaks ring node from (Total epoch q places) p j = (q ≡ p) × (holder_of ring p j ≡ node)
Speaks ring node from (Missing epoch q places) p j = (q ≡ p) × (primary_of ring p ≡ node) × (holder_of ring p j ≡ from)
Speaks ring node from (All epoch q) p j = (q ≡ p) × (primary_of ring p ≡ node) × (holder_of ring p j ≡ from)
Speaks ring node from _ p j = ⊥

-- the piece's writes pend, and it is there
pub record TakesShip (place time : ℕ) (writes : List Write) (l : Line) (t : CopyState) (l' : Line) (t' : CopyState) : Type 0 where
  pub puts : Puts time writes t t'
  pub pend : covers t' time writes ≡ true
  pub there : Adds l.there l'.there place
  pub rest : l' ≡ record l { there = l'.there; is_asked = true }

-- the primary knows only of the places that aren't named that they are there
pub record TakesMissing (places : List ℕ) (l l' : Line) : Type 0 where
  pub lacking : Keeps l.lacking places l'.lacking
  pub rest : l' ≡ record l { lacking = l'.lacking }

abbrev pub Takes : Message → Line → CopyState → Line → CopyState → Type 0
Takes (Ship epoch q place time writes) l t l' t' = TakesShip place time writes l t l' t'
Takes (Total epoch q places) l t l' t' = (l' ≡ record l { total = Some places; is_asked = true }) × (t' ≡ t)
Takes (Missing epoch q places) l t l' t' = TakesMissing places l l' × (t' ≡ t)
Takes (All epoch q) l t l' t' = (l' ≡ record l { is_done = true }) × (t' ≡ t)
Takes _ l t l' t' = (l' ≡ l) × (t' ≡ t)

-- what a message does to its table, also where memory runs out
abbrev pub IsPut : Message → CopyState → CopyState → Type 0
IsPut (Ship epoch q place time writes) t t' = Puts time writes t t'
IsPut _ t t' = t' ≡ t

-- the line and table that the message speaks of take it; others stay
pub record TakesAt (ring : Ring) (node from : ℕ) (m : Message) (p j : ℕ) (l : Line) (t : CopyState) (l' : Line) (t' : CopyState) : Type 0 where
  pub here : Speaks ring node from m p j → Takes m l t l' t'
  pub stays : (Speaks ring node from m p j → ⊥) → (l' ≡ l) × (t' ≡ t)

-- a relation of each copy's line and table before and after
abbrev pub OfBoth : Ring → (ℕ → ℕ → Line → CopyState → Line → CopyState → Type 0) → List Line → List CopyState → List Line → List CopyState → Type 0
OfBoth ring R ls ts ls' ts' = (p j : ℕ) → IsCopy ring p j → (l : Line) (t : CopyState) (l' : Line) (t' : CopyState)
    → slice_get ls (table_of ring p j) ≡ Some l → slice_get ts (table_of ring p j) ≡ Some t
    → slice_get ls' (table_of ring p j) ≡ Some l' → slice_get ts' (table_of ring p j) ≡ Some t' → R p j l t l' t'

-- letters with the node that they were given to
abbrev pub at_node : ℕ → List Letter → List Posted
at_node node letters = map (λ l. record { to = node; letter = l }) letters

-- the letters that wait at the first nodes
abbrev pub waiting_below : (ℕ → List Letter) → ℕ → List Posted
waiting_below waiting zero = []
waiting_below waiting (suc n) = waiting_below waiting n ++ at_node n (waiting n)

-- What given letters do to a line and a table.
pub record Hears (ring : Ring) (epoch : ℕ) (posts : List Posted) (p j : ℕ) (l : Line) (t : CopyState) (l' : Line) (t' : CopyState) : Type 0 where
  pub grows : Grows t t'
  pub all : l'.all ≡ l.all
  pub there_stays : (q : ℕ) → is_in l.there q ≡ true → is_in l'.there q ≡ true
  pub there : (q : ℕ) → is_in l'.there q ≡ true → (is_in l.there q ≡ true) ⊎ ((from : ℕ) × (x : Piece) × Contains posts (posted_of from (holder_of ring p j) (ship_of epoch x)) × (x.partition ≡ p)
      × (x.place ≡ q) × (covers t' x.time x.writes ≡ true) × IsMessage (ship_of epoch x))
  pub total : (l'.total ≡ l.total) ⊎ ((from : ℕ) × (places : List ℕ) × Contains posts (posted_of from (holder_of ring p j) (Total epoch p places)) × (l'.total ≡ Some places) × IsMessage (Total epoch p places))
  pub lacking : (q : ℕ) → is_in l'.lacking q ≡ false → (is_in l.lacking q ≡ false) ⊎ ((places : List ℕ) × Contains posts (reply_of ring p j (Missing epoch p places)) × (is_in places q ≡ false) × IsMessage (Missing epoch p places))
  pub done : l'.is_done ≡ true → (l.is_done ≡ true) ⊎ (Contains posts (reply_of ring p j (All epoch p)) × IsMessage (All epoch p))
  pub lacking_falls : (q : ℕ) → is_in l'.lacking q ≡ true → is_in l.lacking q ≡ true
  pub done_stays : l.is_done ≡ true → l'.is_done ≡ true
  pub asked_stays : l.is_asked ≡ true → l'.is_asked ≡ true
  pub total_stays : is_some l.total ≡ true → is_some l'.total ≡ true
  pub ships : (from : ℕ) (x : Piece) → IsMessage (ship_of epoch x) → x.partition ≡ p → Contains posts (posted_of from (holder_of ring p j) (ship_of epoch x)) → (is_in l'.there x.place ≡ true) × (l'.is_asked ≡ true)
  pub totals : (from : ℕ) (places : List ℕ) → IsMessage (Total epoch p places) → Contains posts (posted_of from (holder_of ring p j) (Total epoch p places)) → (is_some l'.total ≡ true) × (l'.is_asked ≡ true)
  pub alls : IsMessage (All epoch p) → Contains posts (reply_of ring p j (All epoch p)) → l'.is_done ≡ true

-- what given letters do to a table, also where memory runs out
abbrev pub Brings : Ring → ℕ → List Posted → ℕ → ℕ → CopyState → CopyState → Type 0
Brings ring epoch posts p j t t' = Gains epoch p (letters_to (holder_of ring p j) posts) t t'

abbrev pub OfTables : Ring → (ℕ → ℕ → CopyState → CopyState → Type 0) → List CopyState → List CopyState → Type 0
OfTables ring R ts ts' = (p j : ℕ) → IsCopy ring p j → (t t' : CopyState) → slice_get ts (table_of ring p j) ≡ Some t → slice_get ts' (table_of ring p j) ≡ Some t' → R p j t t'
