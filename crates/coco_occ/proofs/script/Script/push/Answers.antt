use Rattle.std.proofs.Common.{◌≡◌, ◌++◌, ◌∷◌, [], ap, sym, ◌∙◌, subst}
use Rattle.coco_shard.specs.declared.ops.Op.{Op}
use Rattle.coco_shard.specs.declared.ops.Answer.{Answer}
use Rattle.coco_occ.proofs.ScriptLemmas.{steps-push}
use Rattle.coco_occ.specs.Steps.{AreBy}
use Rattle.coco_shard.specs.Packed.{answer_of, op_of}
use Rattle.coco_occ.specs.Unpacked.{steps_of}
use Rattle.coco_occ.specs.declared.script.Step.{Step}
use Rattle.coco_occ.specs.declared.script.PackedStep.{PackedStep}
use Rattle.coco_occ.proofs.script.Script.push.Goals as goal

pub returns-clause-ok : goal.returns-clause-ok
returns-clause-ok c =
    let by = c.args.by in
    let s : PackedStep = record { shard = c.args.shard; op = c.in_ok-of.field-0; answer = c.in_ok-on_heap.field-0 } in
    let step : Op → Answer → Step = λ op answer. record { shard = c.args.shard; ask = record { by = by; op = op }; answer = answer } in
    let items : c.push_reserved.new.self.items ≡ c.self.inside.items.items ++ s ∷ [] = c.push_reserved.ensures.items ∙ ap (λ l. l ++ s ∷ []) c.reserve.ensures.items in
    ap (steps_of by) items
    ∙ steps-push c.self.inside.by by c.self.inside.items.items s (subst (AreBy by) (sym c.self.view_is) c.requires)
    ∙ ap (λ l. l ++ step (op_of s.op) (answer_of s.answer) ∷ []) c.self.view_is
    ∙ ap (λ (op : Op). c.args.self.now ++ step op (answer_of s.answer) ∷ []) c.in_ok-of.ensures
    ∙ ap (λ (answer : Answer). c.args.self.now ++ step c.args.op.now answer ∷ []) c.in_ok-on_heap.ensures
