-- The last writes so far, as they are kept under their keys.
use Rattle.std.specs.Prelude.{List, map, Option}
use Rattle.std.specs.Option.{option_map}
use Rattle.std.specs.Map.{lookup}
use Rattle.std.specs.BTreeMap.{is_at}
use Rattle.coco_types.specs.RowKey.{RowKey, key_cmp}
use Rattle.coco_entry.specs.declared.prepared.Row.{Row}
use Rattle.coco_append.specs.LastWrites.{Stamp}
use Rattle.coco_append.specs.declared.rows.Stamp.{Stamp as Kept}

abbrev pub stamp_at : RowKey → List (RowKey × Kept) → Option Stamp
stamp_at k es = option_map (λ s. (s.time, s.value)) (lookup (is_at (key_cmp k)) es)

abbrev pub row_of : RowKey × Kept → Row
row_of e = record { key = e.0; time = e.1.time; value = e.1.value }

abbrev pub rows_in : List (RowKey × Kept) → List Row
rows_in = map row_of
