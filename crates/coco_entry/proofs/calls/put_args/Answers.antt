use Rattle.std.proofs.Common.{None}
use Rattle.coco_bytes.specs.Values.{IsValue}
use Rattle.coco_entry.proofs.FitLemmas.{fit_all, put_all, put_more}
use Rattle.coco_entry.proofs.calls.put_args.Goals as goal

pub loop-argument-preserved : goal.loop-argument-preserved
loop-argument-preserved c = put_more c.loop-argument.invariant c.loop-argument-test.true c.argument-item.is c.in_ok-put_any.ensures.ok c.in_ok-put_any.ensures.fits

pub returns-clause-ok : goal.returns-clause-ok
returns-clause-ok c = (put_all c.loop-argument.invariant c.loop-argument-test.false).0

pub returns-clause-fits : goal.returns-clause-fits
returns-clause-fits c = (c.requires, fit_all IsValue None c.args.args.now (put_all c.loop-argument.invariant c.loop-argument-test.false).1)
