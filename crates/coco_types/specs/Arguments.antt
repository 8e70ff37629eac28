-- What an argument is, where it is a whole number.
use Rattle.std.specs.Prelude.{ℤ, Option, Some, None}
use Rattle.coco_types.specs.declared.value.Value.{Value}
use Rattle.coco_types.specs.declared.value.Value.TheVariants.{Int, Text}

-- the whole number that an argument is, if it is one
abbrev pub int_of : Option Value → Option ℤ
int_of None = None
int_of (Some (Int n)) = Some n
int_of (Some (Text text)) = None
