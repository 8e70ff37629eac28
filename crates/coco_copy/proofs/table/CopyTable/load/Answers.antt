use Rattle.std.proofs.Common.{◌∙◌, ap, subst}
use Rattle.std.proofs.lemmas.Result.{on_err_weaker, on_ok_weaker}
use Rattle.coco_ast.specs.Keyed.{write_at}
use Rattle.coco_copy.specs.CopyState.{CopyState}
use Rattle.coco_copy.specs.Puts.{TakesMemory}
use Rattle.coco_copy.proofs.table.CopyTable.load.Goals as goal

pub returns-clause-ok : goal.returns-clause-ok
returns-clause-ok c =
    on_ok_weaker c.load.result (λ h. h c.self.inside.epoch ∙ ap (λ (s : CopyState). record s { stable = write_at s.stable c.args.key c.args.value }) c.self.view_is) c.load.ensures.state

pub returns-clause-missing : goal.returns-clause-missing
returns-clause-missing c =
    on_err_weaker c.load.result (λ h. subst (λ (s : CopyState). TakesMemory s c.args.key c.args.value) c.self.view_is (h c.self.inside.epoch)) c.load.ensures.missing
