use Rattle.std.proofs.Common.{refl, sym, ap}
use Rattle.std.specs.Option.{option_map}
use Rattle.coco_bytes.proofs.ListLemmas.{last_item-push}
use Rattle.coco_entry.specs.Bases.{stamp_of}
use Rattle.coco_entry.proofs.Loops.{begins, goes_on, ends, fails}
use Rattle.coco_entry.proofs.base.get_each_done.Goals as goal

pub returns-in_err-done-clause-read : goal.returns-in_err-done-clause-read
returns-in_err-done-clause-read c = fails c.loop.invariant.read c.loop-test.true c.from_residual.result c.in_err-done.field-0.0 c.from_residual.ensures.1 (rw (← c.loop.invariant.last) c.in_err-done.ensures.read)

pub returns-clause-read : goal.returns-clause-read
returns-clause-read c = ends c.loop.invariant.read c.loop-test.false

pub loop-init : goal.loop-init
loop-init c = record { read = begins c.new-dones.ensures c.requires; last = rw c.new-dones.ensures refl }

pub loop-preserved : goal.loop-preserved
loop-preserved c = record {
  read = goes_on c.loop.invariant.read c.loop-test.true c.in_ok-push.ensures.ok c.in_ok-done.ensures.within (rw (← c.loop.invariant.last) c.in_ok-done.ensures.read);
  last = rw c.in_ok-push.ensures.ok (sym (ap (option_map stamp_of) (last_item-push c.loop.dones c.in_ok-done.done)));
}
