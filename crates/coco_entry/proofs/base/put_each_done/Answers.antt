use Rattle.coco_entry.proofs.FitLemmas.{put_all, put_more}
use Rattle.coco_entry.proofs.base.put_each_done.Goals as goal

pub loop-done-preserved : goal.loop-done-preserved
loop-done-preserved c = put_more c.loop-done.invariant c.loop-done-test.true c.done-item.is c.in_ok-put_base_done.ensures.ok c.in_ok-put_base_done.ensures.fits

pub returns-clause-ok : goal.returns-clause-ok
returns-clause-ok c = (put_all c.loop-done.invariant c.loop-done-test.false).0

pub returns-clause-fit : goal.returns-clause-fit
returns-clause-fit c = (put_all c.loop-done.invariant c.loop-done-test.false).1
