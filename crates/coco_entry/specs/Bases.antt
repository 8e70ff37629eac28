-- The entries of a base file: its head, the Dones that are kept, and the rows of the map.
use Rattle.std.specs.Prelude.{◌≡◌, ◌⊎◌, ℕ, ◌<◌, ◌≤◌, ◌^◌, Bool, true, false, List, ◌∷◌, ◌++◌, length, Option, Some, None, Result, Ok, Err, nat_lt, nat_le, ◌==◌, ◌||◌, ◌&&◌, if◌then◌else◌}
use Rattle.std.specs.Option.{option_map}
use Rattle.coco_types.specs.declared.call.Done.{Done}
use Rattle.coco_types.specs.declared.value.Value.{Value}
use Rattle.coco_types.specs.RowKey.{RowKey}
use Rattle.coco_bytes.specs.declared.fault.FieldFault.{FieldFault}
use Rattle.coco_bytes.specs.declared.fault.FieldFault.TheVariants.{Bad}
use Rattle.coco_bytes.specs.Fields.{flag_bytes, u64_bytes}
use Rattle.coco_bytes.specs.Reads.{◌>>=◌, Read, flag_at, u32_at, u64_at}
use Rattle.coco_bytes.specs.Lists.{counted, FitInTurn}
use Rattle.coco_bytes.specs.Values.{key_bytes, IsKey, value_bytes, IsValue, value_at}
use Rattle.coco_entry.specs.declared.base.BaseHead.{BaseHead}
use Rattle.coco_entry.specs.declared.base.Stamp.{Stamp}
use Rattle.coco_entry.specs.declared.base.TheConstants.{MOST_ITEMS}
use Rattle.coco_entry.specs.declared.calls.Timed.{Timed}
use Rattle.coco_entry.specs.Grammar.{Reader, then_by, ◌▸◌, made, tested, listed, tagged}
use Rattle.coco_entry.specs.Calls.{done_bytes, IsDone, done_of, timed_at, reply_at}
use Rattle.coco_entry.specs.Rows.{KeyRises, rising_key_at}

-- ---- the head

-- whether there is one, and its number, which is 0 without one
abbrev pub floor_bytes : Option ℕ → List ℕ
floor_bytes None = flag_bytes false ++ u64_bytes 0
floor_bytes (Some floor) = flag_bytes true ++ u64_bytes floor

abbrev pub IsFloor : Option ℕ → Type 0
IsFloor None = Unit {0}
IsFloor (Some floor) = floor < 2 ^ 64

unfoldable pub floor_number_at : Bool → Reader ℕ
floor_number_at is = tested (λ floor. is || (floor == 0)) u64_at

unfoldable pub floor_at : Reader (Option ℕ)
floor_at = made (λ f. if f.0 then Some f.1 else None) (then_by flag_at floor_number_at)

abbrev pub head_bytes : BaseHead → List ℕ
head_bytes head = 4 ∷ (u64_bytes head.epoch ++ (floor_bytes head.floor ++ (u64_bytes head.dones ++ u64_bytes head.rows)))

pub record IsHead (head : BaseHead) : Type 0 where
  pub epoch : head.epoch < 2 ^ 64
  pub floor : IsFloor head.floor
  pub dones : head.dones < 2 ^ 64
  pub rows : head.rows < 2 ^ 64

unfoldable pub head_at : Reader BaseHead
head_at = made (λ h. record { epoch = h.0; floor = h.1.0; dones = h.1.1.0; rows = h.1.1.1 }) (u64_at ▸ floor_at ▸ u64_at ▸ u64_at)

abbrev pub head_in : List ℕ → Result BaseHead FieldFault
head_in = tagged 4 head_at

-- ---- from 1 to 1,024 items

abbrev pub AreItems : ℕ → Type 0
AreItems n = (1 ≤ n) × (n ≤ MOST_ITEMS)

unfoldable pub items_count_at : Reader ℕ
items_count_at = tested (λ n. nat_le 1 n && nat_le n MOST_ITEMS) u32_at

-- ---- the kept Dones, rising by epoch, then time, then id

abbrev pub stamp_of : Done → Stamp
stamp_of done = record { epoch = done.epoch; time = done.time; id = done.id }

abbrev pub is_before : Stamp → Stamp → Bool
is_before s t = nat_lt s.epoch t.epoch || (s.epoch == t.epoch && (nat_lt s.time t.time || (s.time == t.time && nat_lt s.id t.id)))

abbrev pub StampRises : Option Stamp → Stamp → Type 0
StampRises None t = Unit {0}
StampRises (Some s) t = (s.epoch < t.epoch) ⊎ (s.epoch ≡ t.epoch) × ((s.time < t.time) ⊎ (s.time ≡ t.time) × (s.id < t.id))

abbrev pub stamp_rises : Option Stamp → Stamp → Bool
stamp_rises None stamp = true
stamp_rises (Some before) stamp = is_before before stamp

-- above the one before it
abbrev pub DoneRises : Option Done → Done → Type 0
DoneRises before done = StampRises (option_map stamp_of before) (stamp_of done)

abbrev pub base_done_bytes : Done → List ℕ
base_done_bytes done = u64_bytes done.epoch ++ done_bytes done

pub record IsBaseDone (done : Done) : Type 0 where
  pub epoch : done.epoch < 2 ^ 64
  pub fields : IsDone done

abbrev pub stamped : ℕ × Timed → Stamp
stamped s = record { epoch = s.0; time = s.1.time; id = s.1.id }

-- the order is judged once epoch, id and time are read
unfoldable pub stamped_at : Option Stamp → Reader (ℕ × Timed)
stamped_at before =
    tested (λ s. stamp_rises before (stamped s)) (u64_at ▸ timed_at)

unfoldable pub base_done_at : Option Stamp → Reader Done
base_done_at before = made (λ d. done_of d.0.0 d.0.1 d.1) (stamped_at before ▸ reply_at)

abbrev pub base_dones_bytes : List Done → List ℕ
base_dones_bytes dones = 5 ∷ counted base_done_bytes dones

abbrev pub AreBaseDones : List Done → Type 0
AreBaseDones dones = AreItems (length dones) × FitInTurn (λ before done. DoneRises before done × IsBaseDone done) None dones

unfoldable pub base_dones_at : Reader (List Done)
base_dones_at = listed items_count_at (λ before. base_done_at (option_map stamp_of before))

abbrev pub base_dones_in : List ℕ → Result (List Done) FieldFault
base_dones_in = tagged 5 base_dones_at

-- ---- the rows of the map, rising by key

-- a value that isn't none
unfoldable pub present : ℕ → Option Value × ℕ → Read Value
present at (None, end) = Err (Bad at)
present at (Some value, end) = Ok (value, end)

unfoldable pub present_at : Reader Value
present_at from at = do
  value ← value_at from at
  present at value

abbrev pub base_row_bytes : RowKey × Value → List ℕ
base_row_bytes row = key_bytes row.0 ++ value_bytes (Some row.1)

abbrev pub BaseRowRises : Option (RowKey × Value) → RowKey × Value → Type 0
BaseRowRises before row = KeyRises (option_map (λ r. r.0) before) row.0

pub record IsBaseRow (row : RowKey × Value) : Type 0 where
  pub key : IsKey row.0
  pub value : IsValue (Some row.1)

unfoldable pub base_row_at : Option RowKey → Reader (RowKey × Value)
base_row_at before = rising_key_at before ▸ present_at

abbrev pub base_rows_bytes : List (RowKey × Value) → List ℕ
base_rows_bytes rows = 6 ∷ counted base_row_bytes rows

abbrev pub AreBaseRows : List (RowKey × Value) → Type 0
AreBaseRows rows = AreItems (length rows) × FitInTurn (λ before row. BaseRowRises before row × IsBaseRow row) None rows

unfoldable pub base_rows_at : Reader (List (RowKey × Value))
base_rows_at = listed items_count_at (λ before. base_row_at (option_map (λ r. r.0) before))

abbrev pub base_rows_in : List ℕ → Result (List (RowKey × Value)) FieldFault
base_rows_in = tagged 6 base_rows_at
