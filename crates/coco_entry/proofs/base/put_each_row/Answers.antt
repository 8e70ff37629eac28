use Rattle.coco_entry.proofs.FitLemmas.{put_all, put_more}
use Rattle.coco_entry.proofs.base.put_each_row.Goals as goal

pub loop-row-preserved : goal.loop-row-preserved
loop-row-preserved c = put_more c.loop-row.invariant c.loop-row-test.true c.row-item.is c.in_ok-put_base_row.ensures.ok c.in_ok-put_base_row.ensures.fits

pub returns-clause-ok : goal.returns-clause-ok
returns-clause-ok c = (put_all c.loop-row.invariant c.loop-row-test.false).0

pub returns-clause-fit : goal.returns-clause-fit
returns-clause-fit c = (put_all c.loop-row.invariant c.loop-row-test.false).1
