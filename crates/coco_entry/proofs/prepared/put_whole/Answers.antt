use Rattle.std.proofs.Common.{None, arith}
use Rattle.std.proofs.lemmas.Result.{on_ok_weaker}
use Rattle.coco_bytes.specs.Fields.{u8_bytes, u64_bytes}
use Rattle.coco_bytes.specs.Lists.{counted}
use Rattle.coco_entry.specs.Rows.{row_bytes, RowRises, IsRow}
use Rattle.coco_entry.proofs.FitLemmas.{fit_both, three_put}
use Rattle.coco_entry.proofs.prepared.put_whole.Goals as goal

pub returns-clause-ok : goal.returns-clause-ok
returns-clause-ok c =
    on_ok_weaker c.put_rows.result
    (λ put. three_put c.args.out.now.items (u8_bytes 3) (u64_bytes c.args.epoch) (counted row_bytes c.args.rows.now) c.put_u8.new.out.items c.put_u64.new.out.items c.put_rows.new.out.items c.in_ok-put_u8.ensures.ok c.in_ok-put_u64.ensures.ok put)
    c.put_rows.ensures.ok

pub returns-clause-entry : goal.returns-clause-entry
returns-clause-entry c =
    on_ok_weaker c.put_rows.result
    (λ all. record { epoch = omega (arith, c.ranges.epoch.fits); count = c.requires.count; rows = fit_both RowRises IsRow None c.args.rows.now c.requires.rise all })
    c.put_rows.ensures.fit
