use Rattle.std.proofs.Common.{refl, sym, ap}
use Rattle.std.specs.Option.{option_map}
use Rattle.coco_bytes.proofs.ListLemmas.{last_item-push}
use Rattle.coco_entry.proofs.Loops.{begins, goes_on, ends, fails}
use Rattle.coco_entry.proofs.base.get_each_row.Goals as goal

pub returns-in_err-row-clause-read : goal.returns-in_err-row-clause-read
returns-in_err-row-clause-read c = fails c.loop.invariant.read c.loop-test.true c.from_residual.result c.in_err-row.field-0.0 c.from_residual.ensures.1 (rw (← c.loop.invariant.last) c.in_err-row.ensures.read)

pub returns-clause-read : goal.returns-clause-read
returns-clause-read c = ends c.loop.invariant.read c.loop-test.false

pub loop-init : goal.loop-init
loop-init c = record { read = begins c.new-rows.ensures c.requires; last = rw c.new-rows.ensures refl }

pub loop-preserved : goal.loop-preserved
loop-preserved c = record {
  read = goes_on c.loop.invariant.read c.loop-test.true c.in_ok-push.ensures.ok c.in_ok-row.ensures.within (rw (← c.loop.invariant.last) c.in_ok-row.ensures.read);
  last = rw c.in_ok-push.ensures.ok (sym (ap (option_map (λ r. r.0)) (last_item-push c.loop.rows c.in_ok-row.row)));
}
