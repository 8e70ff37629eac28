-- The values that lent ones are, and what was computed of them.
use Rattle.std.specs.Prelude.{ℤ, Some, None, Result, Ok, Err}
use Rattle.coco_types.specs.declared.value.Value.TheVariants.{Int, Text}
use Rattle.coco_types.specs.declared.call.Cause.{Cause}
use Rattle.coco_ast.specs.Meaning.{Datum, Computed}
use Rattle.coco_eval.specs.declared.operand.Operand.{Operand}
use Rattle.coco_eval.specs.declared.operand.Operand.TheVariants as operand

abbrev pub datum_of : Operand → Datum
datum_of operand.None = None
datum_of (operand.Int n) = Some (Int n)
datum_of (operand.Text text) = Some (Text text.now)
datum_of (operand.Literal text) = Some (Text text.now)

-- what was computed, by the value that was lent
abbrev pub computed_of : Result Operand Cause → Computed Datum
computed_of (Ok v) = Ok (datum_of v)
computed_of (Err c) = Err c

-- the same, where it is a whole number
abbrev pub whole_of : Computed ℤ → Computed Datum
whole_of (Ok n) = Ok (Some (Int n))
whole_of (Err c) = Err c
