use Rattle.std.proofs.Common.{rules, OnErr}
use Rattle.std.proofs.lemmas.Result.{on_err_weaker}
use Rattle.coco_copy.specs.Kept.{view_of}
use Rattle.coco_copy.specs.Puts.{HasNothing}
use Rattle.coco_copy.proofs.table.CopyTable.put.Goals as goal

pub returns-then-epoch-self-clause-missing : goal.returns-then-epoch-self-clause-missing
returns-then-epoch-self-clause-missing c =
    let nothing : OnErr c.put.result (HasNothing (view_of c.args.epoch c.self.inside.rows.entries) c.into_parts-key.result.0) = on_err_weaker c.put.result (λ h. h c.args.epoch) c.put.ensures.missing in
    search rules
