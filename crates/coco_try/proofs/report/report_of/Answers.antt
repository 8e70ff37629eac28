use Rattle.std.proofs.Common.{ap, ◌∙◌}
use Rattle.std.proofs.lemmas.Result.{IfOk-weaker}
use Rattle.coco_try.specs.Report.{report_text, sum_in}
use Rattle.coco_try.proofs.SumLemmas.{passed128}
use Rattle.coco_try.proofs.report.report_of.Goals as goal

pub returns : goal.returns
returns c = IfOk-weaker c.text_of.result _ _ (λ text is.
    is ∙ ap (report_text c.args.worked.answered c.args.worked.epochs) (passed128 c.sum_of-sum.result c.sum_of-sum.type_inv ∙ c.sum_of-sum.ensures ∙ ap sum_in c.in_ok-rows.ensures)) c.text_of.ensures
