use Rattle.coco_serve.proofs.NumberLemmas.{none_skipped}
use Rattle.coco_serve.proofs.laws.no_number_is_skipped.Goals as goal

pub returns : goal.returns
returns c = none_skipped
