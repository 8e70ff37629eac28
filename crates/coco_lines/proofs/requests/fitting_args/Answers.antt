use Rattle.std.proofs.Common.{◌∙◌, sym}
use Rattle.std.proofs.lemmas.Result.{IfOk-weaker}
use Rattle.coco_lines.proofs.ReadingLemmas.{fitting_args-fewer, fitting_args-as_many}
use Rattle.coco_lines.proofs.requests.fitting_args.Goals as goal

pub returns-then-items-params : goal.returns-then-items-params
returns-then-items-params c = sym (fitting_args-fewer c.args.params c.args.items.now c.if-items-params.true)

pub returns : goal.returns
returns c = IfOk-weaker c.args_of.result _ _ (λ args is. is ∙ sym (fitting_args-as_many c.args.params c.args.items.now c.if-items-params.false)) c.args_of.ensures
