-- Histories of committed requests: epochs over a base, which kept replies are held, and what it is for a history to be ordered and serial.
use Rattle.std.specs.Prelude.{◌≡◌, ◌⊎◌, ⊤, ℕ, ◌<◌, Bool, true, false, not, nat_eq, nat_lt, nat_le, max, List, [], ◌∷◌, ◌++◌, map, Option, None, Some}
use Rattle.std.specs.List.{filter, find, AllByRecursion, IsDistinct}
use Rattle.std.specs.FinMap.{empty}
use Rattle.std.specs.Set.{distinct_count}
use Rattle.coco_types.specs.declared.call.Done.{Done}
use Rattle.coco_types.specs.declared.call.Request.{Request}
use Rattle.coco_ast.specs.Tree.{Procedures}
use Rattle.coco_ast.specs.Keyed.{Rows}
use Rattle.coco_ast.specs.Meaning.{run}

-- ---- histories

pub record Epoch : Type 0 where
  pub number : ℕ
  pub dones : List Done

-- what a history goes on from: its last epoch's number, its rows, the replies still kept, and the greatest id that was forgotten
pub record Base : Type 0 where
  pub epoch : ℕ
  pub rows : Rows
  pub kept : List Done
  pub floor : Option ℕ

-- the keep number says of how many of the last epochs the replies are kept; without one all are
pub record History : Type 0 where
  pub base : Base
  pub epochs : List Epoch
  pub keep : Option ℕ

abbrev pub no_base : Base
no_base = record { epoch = 0; rows = empty; kept = []; floor = None }

abbrev pub no_history : History
no_history = record { base = no_base; epochs = []; keep = None }

abbrev pub followed_by : History → Epoch → History
followed_by h e = record h { epochs = h.epochs ++ e ∷ [] }

abbrev pub last_number : ℕ → List Epoch → ℕ
last_number n [] = n
last_number n (e ∷ es) = last_number e.number es

-- the number of its last epoch, or of its base
abbrev pub last_epoch : History → ℕ
last_epoch h = last_number h.base.epoch h.epochs

-- without the epochs behind this one
abbrev pub up_to : ℕ → History → History
up_to n h = record h { epochs = filter (λ e. nat_le e.number n) h.epochs }

abbrev pub with_keep : Option ℕ → History → History
with_keep keep h = record h { keep = keep }

-- one base, one keep number, and the first epochs
abbrev pub IsPrefixOf : History → History → Type 0
IsPrefixOf g h = (g.base ≡ h.base) × (g.keep ≡ h.keep) × ((rest : List Epoch) × (h.epochs ≡ g.epochs ++ rest))

-- ---- Dones

abbrev pub dones_in : List Epoch → List Done
dones_in [] = []
dones_in (e ∷ es) = e.dones ++ dones_in es

-- those of its epochs, in order
abbrev pub epoch_dones : History → List Done
epoch_dones h = dones_in h.epochs

abbrev pub all_dones : History → List Done
all_dones h = h.base.kept ++ epoch_dones h

abbrev pub ids_of : List Done → List ℕ
ids_of = map (λ d. d.id)

-- how many epochs with Dones among these are above this one
abbrev pub epochs_above : ℕ → List Done → ℕ
epochs_above n ds = distinct_count nat_eq (filter (λ m. nat_lt n m) (map (λ d. d.epoch) ds))

abbrev pub is_held : Option ℕ → List Done → Done → Bool
is_held None ds d = true
is_held (Some k) ds d = nat_lt (epochs_above d.epoch ds) k

-- the Dones whose replies are kept
abbrev pub kept_of : Option ℕ → List Done → List Done
kept_of keep ds = filter (is_held keep ds) ds

abbrev pub forgotten_of : Option ℕ → List Done → List Done
forgotten_of keep ds = filter (λ d. not (is_held keep ds d)) ds

abbrev pub greatest_with : Option ℕ → List ℕ → Option ℕ
greatest_with n [] = n
greatest_with None (x ∷ xs) = greatest_with (Some x) xs
greatest_with (Some n) (x ∷ xs) = greatest_with (Some (max n x)) xs

-- the greatest id that is no longer kept: of these Dones, or the one from before them
abbrev pub floor_of : Option ℕ → Option ℕ → List Done → Option ℕ
floor_of keep before ds = greatest_with before (ids_of (forgotten_of keep ds))

abbrev pub kept : History → List Done
kept h = kept_of h.keep (all_dones h)

abbrev pub floor : History → Option ℕ
floor h = floor_of h.keep h.base.floor (all_dones h)

-- whether an id is at most the floor
abbrev pub is_up_to : Option ℕ → ℕ → Bool
is_up_to None id = false
is_up_to (Some n) id = nat_le id n

-- the Done of an id
abbrev pub done_of : ℕ → List Done → Option Done
done_of id ds = find (λ d. nat_eq id d.id) ds

-- ---- ordered

-- numbers that rise, all above this one
abbrev pub RisesAbove : ℕ → List ℕ → Type 0
RisesAbove n [] = ⊤
RisesAbove n (x ∷ xs) = (n < x) × RisesAbove x xs

-- by epoch, then time, then id
abbrev pub IsBefore : Done → Done → Type 0
IsBefore d e = (d.epoch < e.epoch) ⊎ (d.epoch ≡ e.epoch) × ((d.time < e.time) ⊎ (d.time ≡ e.time) × (d.id < e.id))

abbrev pub IsRising : List Done → Type 0
IsRising [] = ⊤
IsRising (d ∷ ds) = AllByRecursion (λ e. IsBefore d e) ds × IsRising ds

abbrev pub HaveTheirNumbers : List Epoch → Type 0
HaveTheirNumbers = AllByRecursion (λ e. AllByRecursion (λ d. d.epoch ≡ e.number) e.dones)

abbrev pub AreAbove : Option ℕ → List ℕ → Type 0
AreAbove None ids = ⊤
AreAbove (Some n) ids = AllByRecursion (λ id. n < id) ids

-- by epoch and logical time, each id once
pub record IsOrdered (h : History) : Type 0 where
  pub epochs_rise : RisesAbove h.base.epoch (map (λ e. e.number) h.epochs)
  pub numbered : HaveTheirNumbers h.epochs
  pub rising : IsRising (epoch_dones h)
  pub once : IsDistinct nat_eq (ids_of (all_dones h))
  pub above_floor : AreAbove h.base.floor (ids_of (epoch_dones h))

-- ---- serial

-- the map after the calls, in order
abbrev pub rows_after : Procedures → Rows → List Done → Rows
rows_after ps m [] = m
rows_after ps m (d ∷ ds) = rows_after ps (run ps d.call m).rows ds

-- each reply is that of its call on the map so far
abbrev pub RepliesAreRuns : Procedures → Rows → List Done → Type 0
RepliesAreRuns ps m [] = ⊤
RepliesAreRuns ps m (d ∷ ds) = (d.reply ≡ (run ps d.call m).reply) × RepliesAreRuns ps (run ps d.call m).rows ds

-- a snapshot call has time 0, and every other call a time of at least 1
abbrev pub is_timed : Bool → ℕ → Bool
is_timed true t = nat_eq t 0
is_timed false t = nat_lt 0 t

abbrev pub AreTimed : List Done → Type 0
AreTimed = AllByRecursion (λ d. is_timed d.call.snapshot d.time ≡ true)

-- one executor on one map gives every reply, in the order of the history
pub record IsSerial (ps : Procedures) (h : History) : Type 0 where
  pub replies : RepliesAreRuns ps h.base.rows (epoch_dones h)
  pub times : AreTimed (epoch_dones h)

abbrev pub map_of : Procedures → History → Rows
map_of ps h = rows_after ps h.base.rows (epoch_dones h)

-- what a Done answers
abbrev pub request_of : Done → Request
request_of d = record { id = d.id; call = d.call }

-- ---- compacted

-- the map, the kept Dones and the floor become the base, under this epoch's number
abbrev pub compacted : Procedures → ℕ → History → History
compacted ps n h = record { base = record { epoch = n; rows = map_of ps h; kept = kept h; floor = floor h }; epochs = []; keep = h.keep }

-- a line has the same class and the same answer after either
pub record AnswerAlike (ps : Procedures) (g h : History) : Type 0 where
  pub kept : kept g ≡ kept h
  pub floor : floor g ≡ floor h
  pub rows : map_of ps g ≡ map_of ps h

abbrev pub followed_by_all : History → List Epoch → History
followed_by_all h es = record h { epochs = h.epochs ++ es }

-- and so it stays, whichever epochs follow both
abbrev pub StayAlike : Procedures → History → History → Type 0
StayAlike ps g h = (es : List Epoch) → IsOrdered (followed_by_all g es) → IsOrdered (followed_by_all h es) → AnswerAlike ps (followed_by_all g es) (followed_by_all h es)
