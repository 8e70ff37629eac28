-- What a variable holds: its value where it is set, and else none.
use Rattle.std.specs.Prelude.{Bool, true, false, Option, Some, None}
use Rattle.coco_types.specs.declared.value.Value.{Value}

abbrev pub held : Bool → Value → Option Value
held true v = Some v
held false v = None
