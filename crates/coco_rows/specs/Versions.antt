-- The newest value of a row, and a row at rest between two epochs.
use Rattle.std.specs.Prelude.{◌≡◌, Bool, true, false, if◌then◌else◌, Option, Some, None, refl}
use Rattle.coco_types.specs.declared.value.Value.{Value}
use Rattle.coco_types.specs.declared.value.Value.TheVariants.{Int, Text}
use Rattle.coco_rows.specs.declared.Newest.{Newest}
use Rattle.coco_rows.specs.declared.Newest.TheVariants as newest
use Rattle.coco_rows.specs.declared.Row.{Row}
use Rattle.coco_rows.specs.Listing.{RowKind}

-- the newest value, beside this stable one
abbrev pub newest_beside : Option Value → Newest → Option Value
newest_beside stable newest.Untouched = stable
newest_beside stable newest.AsStable = stable
newest_beside stable newest.Absent = None
newest_beside stable (newest.Int n) = Some (Int n)
newest_beside stable (newest.Text room) = Some (Text room.value.text)

abbrev pub newest_of : Row → Option Value
newest_of row = newest_beside row.stable row.newest

abbrev pub notes_touch : Newest → Bool
notes_touch newest.Untouched = false
notes_touch newest.AsStable = true
notes_touch newest.Absent = true
notes_touch (newest.Int n) = true
notes_touch (newest.Text room) = true

-- whether the row is noted as touched
abbrev pub is_touched : Row → Bool
is_touched row = notes_touch row.newest

-- as a row is between two epochs: one version, both times 0, and no mark; it isn't touched
abbrev pub at_rest : Option Value → Row
at_rest value = record { newest = newest.Untouched; wts = 0; rts = 0; mark = None; stable = value }

-- the version that a row ends an epoch with: the newest, or the stable one
abbrev pub version_of : Bool → Row → Option Value
version_of promotes row = if promotes then newest_of row else row.stable

abbrev one_version : (newest : Bool) (value : Option Value) → version_of newest (at_rest value) ≡ value
one_version true value = refl
one_version false value = refl

-- a row is noted where it is touched
abbrev pub row_kind : RowKind Row
row_kind = record { is_noted = is_touched; version_of = version_of; at_rest = at_rest; unnoted = λ _. refl; stays = one_version }
