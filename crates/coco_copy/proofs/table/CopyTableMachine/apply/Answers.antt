use Rattle.std.proofs.Common.{inl, inr, rules, OnErr}
use Rattle.std.proofs.lemmas.Result.{on_err_weaker}
use Rattle.coco_types.specs.Packing.{IsText}
use Rattle.coco_copy.specs.Kept.{view_of}
use Rattle.coco_copy.specs.Puts.{HasNothing, key_of, value_of}
use Rattle.coco_copy.proofs.Views.{on_err_of}
use Rattle.coco_copy.proofs.table.CopyTableMachine.apply.Goals as goal

pub returns-in_err-packed-clause-missing : goal.returns-in_err-packed-clause-missing
returns-in_err-packed-clause-missing c =
    let text : IsText (value_of c.args.ask) = search rules in
    on_err_of c.from_residual.result (inr text)

pub returns-clause-missing : goal.returns-clause-missing
returns-clause-missing c =
    let there : OnErr c.put.result (HasNothing (view_of c.self.inside.epoch c.self.inside.rows.entries) (key_of c.args.ask)) = on_err_weaker c.put.result (λ h. (let n = h c.self.inside.epoch in search rules)) c.put.ensures.missing in
    let nothing : OnErr c.put.result (HasNothing c.args.self.now (key_of c.args.ask)) = search rules in
    on_err_weaker c.put.result (λ h. inl h) nothing
