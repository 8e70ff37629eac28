use Rattle.coco_seen.proofs.Keeping.{begins_so}
use Rattle.coco_seen.proofs.seen.Seen.make.Goals as goal

pub vacant-made-requires : goal.vacant-made-requires
vacant-made-requires g c = begins_so g.S.Stores.entries g.S.Stores.comes_from c.args.notes c.requires.some
