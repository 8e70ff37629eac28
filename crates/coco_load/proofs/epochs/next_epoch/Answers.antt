use Rattle.coco_load.proofs.Adding.{next_more}
use Rattle.coco_load.proofs.epochs.next_epoch.Goals as goal

pub returns : goal.returns
returns c epochs so = next_more epochs c.args.next c.args.epoch c.max.result c.max.ensures so
