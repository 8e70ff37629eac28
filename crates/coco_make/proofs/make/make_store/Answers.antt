use Rattle.coco_make.proofs.StoreLemmas.{fields_of}
use Rattle.coco_make.proofs.make.make_store.Goals as goal

pub put_layout-requires-clause-fields : goal.put_layout-requires-clause-fields
put_layout-requires-clause-fields g c = fields_of c.args.layout.now c.requires.new c.requires.good
