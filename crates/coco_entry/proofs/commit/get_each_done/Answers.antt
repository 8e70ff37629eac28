use Rattle.coco_entry.proofs.Loops.{begins, goes_on, ends, fails}
use Rattle.coco_entry.proofs.commit.get_each_done.Goals as goal

pub returns-in_err-done-clause-read : goal.returns-in_err-done-clause-read
returns-in_err-done-clause-read c = fails c.loop.invariant c.loop-test.true c.from_residual.result c.in_err-done.field-0.0 c.from_residual.ensures.1 c.in_err-done.ensures.read

pub returns-clause-read : goal.returns-clause-read
returns-clause-read c = ends c.loop.invariant c.loop-test.false

pub loop-init : goal.loop-init
loop-init c = begins c.new-dones.ensures c.requires

pub loop-preserved : goal.loop-preserved
loop-preserved c = goes_on c.loop.invariant c.loop-test.true c.in_ok-push.ensures.ok c.in_ok-done.ensures.within c.in_ok-done.ensures.read
