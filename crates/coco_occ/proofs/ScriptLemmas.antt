-- A script whose steps are one attempt's is kept as that attempt's.
use Rattle.std.proofs.Common.{◌≡◌, List, [], ◌∷◌, ◌++◌, refl, sym, ap, ◌∙◌}
use Rattle.std.proofs.lemmas.List.{map-append}
use Rattle.coco_types.specs.declared.call.AttemptId.{AttemptId}
use Rattle.coco_occ.specs.Steps.{AreBy}
use Rattle.coco_occ.specs.Unpacked.{step_from, steps_of}
use Rattle.coco_occ.specs.declared.script.PackedStep.{PackedStep}

same_steps : (old by : AttemptId) (items : List PackedStep) → AreBy by (steps_of old items) → steps_of by items ≡ steps_of old items
same_steps old by [] are = refl
same_steps old by (s ∷ items) are = ap (λ a. steps_of a (s ∷ items)) (sym are.0)

pub steps-push : (old by : AttemptId) (items : List PackedStep) (s : PackedStep) → AreBy by (steps_of old items) → steps_of by (items ++ s ∷ []) ≡ steps_of old items ++ step_from by s ∷ []
steps-push old by items s are = map-append (step_from by) items (s ∷ []) ∙ ap (λ l. l ++ step_from by s ∷ []) (same_steps old by items are)
