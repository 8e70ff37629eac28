use Rattle.coco_store.proofs.Examples.{store_examples}
use Rattle.coco_store.proofs.laws.store_examples.Goals as goal

pub returns : goal.returns
returns c = store_examples
