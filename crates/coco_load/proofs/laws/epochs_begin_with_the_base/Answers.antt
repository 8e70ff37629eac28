use Rattle.coco_load.proofs.Adding.{epochs_begin}
use Rattle.coco_load.proofs.laws.epochs_begin_with_the_base.Goals as goal

pub returns : goal.returns
returns c = epochs_begin
