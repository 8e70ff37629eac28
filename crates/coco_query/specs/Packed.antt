-- What is kept packed, as contracts see it.
use Rattle.std.specs.Prelude.{Some, None}
use Rattle.coco_types.specs.declared.value.Value.TheVariants.{Int, Text}
use Rattle.coco_query.specs.declared.frozen.FrozenAnswer.{FrozenAnswer}
use Rattle.coco_query.specs.declared.frozen.FrozenAnswer.TheVariants.{Had}
use Rattle.coco_query.specs.declared.packed.PackedAnswer.{PackedAnswer}
use Rattle.coco_query.specs.declared.packed.PackedAnswer.TheVariants.{HadNone, HadInt, HadText}

abbrev pub answer_of : PackedAnswer → FrozenAnswer
answer_of HadNone = Had None
answer_of (HadInt number) = Had (Some (Int number))
answer_of (HadText text) = Had (Some (Text text.value))
