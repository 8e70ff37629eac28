use Rattle.std.proofs.Common.{ap, codes, ◌∙◌}
use Rattle.std.proofs.lemmas.Result.{IfOk-weaker}
use Rattle.coco_words.specs.Matches.{with_named}
use Rattle.coco_words.proofs.reading.with_run_options.Goals as goal

pub returns : goal.returns
returns c = IfOk-weaker c.with_option-4.result _ _ (λ more is.
    is ∙ ap (λ a. with_named a (codes "disturb")) (c.in_ok-attempts.ensures
    ∙ ap (λ a. with_named a (codes "attempts")) (c.in_ok-workers.ensures ∙ ap (λ a. with_named a (codes "workers")) c.in_ok-epoch.ensures))) c.with_option-4.ensures
