use Rattle.coco_tables.proofs.Starting.{started}
use Rattle.coco_tables.proofs.attempts.attempt_at.Goals as goal

pub returns : goal.returns
returns c = started c.args.procs.now c.args.request.now.call c.args.by c.args.partitions c.in_ok-attempt.attempt c.requires.some_shards c.in_ok-attempt.ensures
