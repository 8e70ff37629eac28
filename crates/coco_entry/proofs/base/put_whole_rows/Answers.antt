use Rattle.std.proofs.Common.{None}
use Rattle.std.proofs.lemmas.Result.{on_ok_weaker}
use Rattle.coco_entry.specs.Bases.{BaseRowRises, IsBaseRow}
use Rattle.coco_entry.proofs.FitLemmas.{fit_both}
use Rattle.coco_entry.proofs.base.put_whole_rows.Goals as goal

pub returns-clause-entry : goal.returns-clause-entry
returns-clause-entry c =
    on_ok_weaker c.put_each_row.result (λ all. (c.requires.count, fit_both BaseRowRises IsBaseRow None c.args.rows.now c.requires.rise all)) c.put_each_row.ensures.fit
