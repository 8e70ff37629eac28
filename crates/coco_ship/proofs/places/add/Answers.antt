use Rattle.coco_ship.proofs.SetLemmas.{on_ok_adds}
use Rattle.coco_ship.proofs.places.add.Goals as goal

pub returns : goal.returns
returns c = on_ok_adds c.args.places.now c.push.new.self c.args.place c.push.result c.push.ensures.ok
