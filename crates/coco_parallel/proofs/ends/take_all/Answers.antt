use Rattle.std.proofs.Common.{List, ◌++◌, ap, ◌∙◌, subst}
use Rattle.std.specs.List.Sorted.{IsPermutation}
use Rattle.coco_types.specs.declared.call.Done.{Done}
use Rattle.coco_order.specs.Execution.{concat}
use Rattle.coco_parallel.specs.Ends.{dones_of}
use Rattle.coco_parallel.proofs.ends.take_all.Goals as goal

pub returns-clause-same : goal.returns-clause-same
returns-clause-same c =
    subst (λ (ds : List Done). IsPermutation ds c.ordered.result.items)
    (c.in_ok-take_commits.ensures.dones ∙ ap (λ (ds : List Done). ds ++ dones_of c.args.epoch c.args.requests.now (concat c.args.transcripts.now)) c.in_ok-progress.ensures.dones)
    c.ordered.ensures.same
