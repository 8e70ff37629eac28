use Rattle.std.proofs.Common.{None}
use Rattle.std.proofs.lemmas.Result.{on_ok_weaker}
use Rattle.coco_entry.specs.Bases.{DoneRises, IsBaseDone}
use Rattle.coco_entry.proofs.FitLemmas.{fit_both}
use Rattle.coco_entry.proofs.base.put_whole_dones.Goals as goal

pub returns-clause-entry : goal.returns-clause-entry
returns-clause-entry c =
    on_ok_weaker c.put_each_done.result (λ all. (c.requires.count, fit_both DoneRises IsBaseDone None c.args.dones.now c.requires.rise all)) c.put_each_done.ensures.fit
