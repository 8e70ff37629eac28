-- The map that rows make, and a map whose values stand elsewhere.
use Rattle.std.specs.Prelude.{List, map, flat_map, Some}
use denote.Ref.{Bor}
use Rattle.std.specs.BTreeMap.{BTreeMap}
use Rattle.std.specs.FinMap.{empty, from_entries}
use Rattle.coco_types.specs.RowKey.{RowKey}
use Rattle.coco_types.specs.declared.call.Write.{Write}
use Rattle.coco_types.specs.declared.value.Value.{Value}
use Rattle.coco_ast.specs.Keyed.{Rows, put_over}

abbrev pub as_write : RowKey × Value → Write
as_write row = record { key = row.0; value = Some row.1 }

-- the map of these rows, each put over those before it
abbrev pub map_with : List (RowKey × Value) → Rows
map_with rows = put_over empty (map as_write rows)

-- the rows of all lists, one list behind another
abbrev pub joined : List (List (RowKey × Value)) → List (RowKey × Value)
joined = flat_map (λ rows. rows)

-- the map of values that are lent
abbrev pub lent_map : BTreeMap RowKey (Bor Value) → Rows
lent_map m = from_entries (map (λ e. (e.0, e.1.now)) m.entries)
