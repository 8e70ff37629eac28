-- What is kept packed, as contracts see it.
use Rattle.coco_types.specs.declared.value.Value.{Value}
use Rattle.coco_types.specs.declared.value.Value.TheVariants.{Int, Text}
use Rattle.coco_load.specs.declared.packed.Kind.{Kind}
use Rattle.coco_load.specs.declared.packed.Kind.TheVariants as packed

-- the value that is packed so
abbrev pub value_of : Kind → Value
value_of (packed.Int n) = Int n
value_of (packed.Text text) = Text text.value
