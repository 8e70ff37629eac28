-- What a row keeps, as contracts see it.
use Rattle.std.specs.Prelude.{Option, Some, None}
use Rattle.coco_rows.specs.declared.stored.Kind.{Kind}
use Rattle.coco_rows.specs.declared.stored.Kind.TheVariants as kept
use Rattle.coco_types.specs.declared.value.Value.{Value}
use Rattle.coco_types.specs.declared.value.Value.TheVariants.{Int, Text}

-- the value that is kept so
abbrev pub stored : Kind → Option Value
stored kept.Absent = None
stored (kept.Int n) = Some (Int n)
stored (kept.Text room) = Some (Text room.value.text)
