use Rattle.std.proofs.Common.{◌≡◌, ◌++◌, ◌∷◌, [], List, take, sym, ap, ◌∙◌, arith}
use Rattle.std.proofs.lemmas.List.{map_more, map_push}
use Rattle.coco_occ.specs.Unpacked.{step_from, steps_of}
use Rattle.coco_occ.specs.declared.script.Step.{Step}
use Rattle.coco_occ.proofs.script.Script.copied_to.Goals as goal

pub loop-step-preserved : goal.loop-step-preserved
loop-step-preserved c =
    let before = c.loop-step.invariant in
    let all = c.deref-step-items.result.now in
    let copy = c.in_ok-try_clone.field-0 in
    record {
      copied = λ by. ap (steps_of by) c.push_reserved.ensures.items
          ∙ map_push (step_from by) c.loop-step.items.items copy
          ∙ ap (λ (xs : List Step). xs ++ step_from by copy ∷ []) (before.copied by)
          ∙ ap (λ (s : Step). steps_of by (take c.loop-step.step-index all) ++ s ∷ []) (c.in_ok-try_clone.ensures by ∙ ap (step_from by) c.step-item.is)
          ∙ sym (map_more (step_from by) all c.loop-step.step-index c.step-item.result c.loop-step-test.true);
      count = omega (arith, c.push_reserved.ensures.len, before.count);
      room = omega (arith, c.push_reserved.ensures.capacity, before.room);
    }
