use Rattle.std.proofs.Common.{refl, ap, length, ◌∷◌, [], length-append, arith}
use Rattle.coco_entry.proofs.Loops.{begins, goes_on, ends, fails}
use Rattle.coco_entry.proofs.calls.get_each_arg.Goals as goal

pub returns-in_err-value-clause-read : goal.returns-in_err-value-clause-read
returns-in_err-value-clause-read c = fails c.loop.invariant.read c.loop-test.true c.from_residual-in_err-value.result c.in_err-value.field-0.0 c.from_residual-in_err-value.ensures.1 c.in_err-value.ensures.read

pub returns-clause-read : goal.returns-clause-read
returns-clause-read c = ends c.loop.invariant.read c.loop-test.false

pub loop-init : goal.loop-init
loop-init c = record { read = begins c.in_ok-args.ensures c.requires.start; count = rw c.in_ok-args.ensures refl }

pub loop-preserved : goal.loop-preserved
loop-preserved c = record {
  read = goes_on c.loop.invariant.read c.loop-test.true c.in_ok-push_packed.ensures.ok c.in_ok-value.ensures.within c.in_ok-value.ensures.read;
  count = omega (arith, ap length c.in_ok-push_packed.ensures.ok, length-append c.loop.args (c.in_ok-value.value ∷ []), c.loop.invariant.count);
}
