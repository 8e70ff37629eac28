-- What is kept packed, as contracts see it.
use Rattle.std.specs.Prelude.{Option, Some, None}
use Rattle.coco_types.specs.declared.packed.Kind.{Kind}
use Rattle.coco_types.specs.declared.packed.Kind.TheVariants as packed
use Rattle.coco_types.specs.declared.packed.Lent.{Lent}
use Rattle.coco_types.specs.declared.packed.Lent.TheVariants as lent
use Rattle.coco_types.specs.declared.value.Value.{Value}
use Rattle.coco_types.specs.declared.value.Value.TheVariants.{Int, Text}

-- the value that is packed so
abbrev pub unpacked : Kind → Option Value
unpacked packed.Absent = None
unpacked (packed.Int n) = Some (Int n)
unpacked (packed.Text text) = Some (Text text.value)

-- the value that is lent
abbrev pub lent_value : Lent → Value
lent_value (lent.Int n) = Int n
lent_value (lent.Text text) = Text text.now

-- the value is a text, the one that takes memory to keep
abbrev pub IsText : Option Value → Type 0
IsText None = ⊥
IsText (Some (Int n)) = ⊥
IsText (Some (Text text)) = Unit {0}
