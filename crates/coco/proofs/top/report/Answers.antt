use Rattle.coco.proofs.EndingLemmas.{front_of}
use Rattle.coco.proofs.top.report.Goals as goal

pub returns : goal.returns
returns g c = record { status = c.status.ensures; whole = c.complain-line.ensures.ok; front = front_of _ _ c.complain-line.result c.complain-line.ensures.err; counts = c.complain-line.ensures.counts }
