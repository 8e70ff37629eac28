use Rattle.std.proofs.Common.{◌∙◌, ◌∷◌, ◌++◌, [], List, None, Option, ap}
use Rattle.std.proofs.lemmas.List.{replicate_more}
use Rattle.coco_types.specs.declared.call.Request.{Request}
use Rattle.coco_lost.proofs.requests.no_requests.Goals as goal

pub loop-place-preserved : goal.loop-place-preserved
loop-place-preserved c = c.in_ok-push.ensures.items ∙ ap (λ (slots : List (Option Request)). slots ++ None ∷ []) c.loop-place.invariant ∙ replicate_more c.loop-place._place None
