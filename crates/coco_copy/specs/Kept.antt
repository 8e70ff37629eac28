-- How a copy keeps a key's row, and the list of the keys that were put in this epoch.
use Rattle.std.specs.Prelude.{◌≡◌, ℕ, Bool, true, false, if◌then◌else◌, List, Option, None, Some, unwrap_or, is_some, refl}
use Rattle.std.specs.Option.{option_map}
use Rattle.std.specs.Map.{set_value}
use Rattle.std.specs.BTreeMap.{is_at}
use Rattle.std.specs.FinMap.{from_entries}
use Rattle.coco_types.specs.RowKey.{RowKey, key_cmp}
use Rattle.coco_types.specs.declared.value.Value.{Value}
use Rattle.coco_rows.specs.Listing as listing
use Rattle.coco_rows.specs.Listing.{RowKind, IsListing}
pub use Rattle.coco_rows.specs.Listing.{entry_of, kept_at, part_of}
use Rattle.coco_copy.specs.declared.kept.Kept.{Kept}
use Rattle.coco_copy.specs.CopyState.{CopyState}

-- what stands in a row, and what pends for it
abbrev pub stable_of : Kept → Option Value
stable_of kept = kept.stable

abbrev pub pending_of : Kept → Option (ℕ × Option Value)
pending_of kept = kept.pending

-- what contracts see of the entries
abbrev pub view_of : ℕ → List (RowKey × Kept) → CopyState
view_of epoch es = record { epoch = epoch; stable = from_entries (part_of stable_of es); pending = from_entries (part_of pending_of es) }

-- the value that a row ends an epoch with
abbrev pub version_of : Bool → Kept → Option Value
version_of promotes kept = if promotes then unwrap_or (option_map (λ p. p.1) kept.pending) kept.stable else kept.stable

abbrev pub rested : Option Value → Kept
rested value = record { stable = value; pending = None }

abbrev one_version : (promotes : Bool) (value : Option Value) → version_of promotes (rested value) ≡ value
one_version true value = refl
one_version false value = refl

-- whether something pends for a row
abbrev pub pends : Kept → Bool
pends kept = is_some kept.pending

-- a row is noted where something pends for it
abbrev pub row_kind : RowKind Kept
row_kind = record { is_noted = pends; version_of = version_of; at_rest = rested; unnoted = λ _. refl; stays = one_version }

-- The list has each key for which something pends, once, and room for the key of every row.
abbrev pub IsWhole : List (RowKey × Kept) → List RowKey → ℕ → Type 0
IsWhole = IsListing row_kind

-- the entries after the stable value of a row that is there is set
pub record SetsStable (old new : List (RowKey × Kept)) (k : RowKey) (value : Option Value) : Type 0 where
  pub before : Kept
  pub was : kept_at old k ≡ Some before
  pub put : new ≡ set_value (is_at (key_cmp k)) old (record before { stable = value })

-- what is left of a row at an epoch's end: nothing, where it has no value
abbrev pub settled : Bool → Option Kept → Option Kept
settled = listing.settled row_kind
