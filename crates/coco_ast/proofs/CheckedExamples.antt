-- The words of the check compute each example.
use Rattle.std.proofs.Common.{refl}
use Rattle.coco_ast.specs.CheckExamples.{CheckExamples}

pub check_examples : CheckExamples
check_examples = record {
  weights = refl;
  endings = refl;
  arounds = refl;
  known = refl;
  variables = refl;
  tables = refl;
}
