use Rattle.std.proofs.Common.{◌≡◌, true, [], ◌∷◌, ◌++◌, None, refl, sym, ap, ◌∙◌, subst}
use Rattle.coco_types.specs.RowKey.{RowKey}
use Rattle.coco_ast.specs.Meaning.{Datum}
use Rattle.coco_eval.specs.Standing as eval
use Rattle.coco_shard.specs.declared.ops.Answer.{Answer}
use Rattle.coco_shard.specs.declared.ops.Answer.TheVariants.{Stood}
use Rattle.coco_shard.specs.declared.ops.Op.TheVariants.{Past}
use Rattle.coco_occ.specs.Course.{exchange}
use Rattle.coco_occ.specs.Keeping.{IsReading}
use Rattle.coco_occ.proofs.AttemptLemmas.{stood_read, gave}
use Rattle.coco_occ.proofs.progress.accept_past.Goals as goal

pub returns-clause-goes : goal.returns-clause-goes
returns-clause-goes c course key before s =
    let w = s.waits in
    let same : w.0 ≡ key = (let g : Past key ≡ Past w.0 = w.2 in cc) in
    let e = c.args.run.now in
    let value = c.in-Stood.value in
    let is : c.give_lent.new.self ≡ gave e key value = c.give_lent.ensures w.0 w.1 ∙ ap (λ (v : Datum). gave e w.0 v) c.as_ref.ensures.value ∙ ap (λ (k : RowKey). gave e k value) same in
    subst (λ (a : Answer). IsReading true c.give_lent.new.self (before ++ exchange (Past key) a ∷ []) course None) (sym c.in-Stood.is)
    (subst (λ (x : eval.Evaluation). IsReading true x (before ++ exchange (Past key) (Stood value) ∷ []) course None) (sym is)
    (stood_read e before course (Past key) key value s refl))

pub returns-clause-procs : goal.returns-clause-procs
returns-clause-procs c = let w = c.requires.4.waits in ap (λ (e : eval.Evaluation). e.procs) (c.give_lent.ensures w.0 w.1)

pub returns-clause-call : goal.returns-clause-call
returns-clause-call c = let w = c.requires.4.waits in ap (λ (e : eval.Evaluation). e.call) (c.give_lent.ensures w.0 w.1)
