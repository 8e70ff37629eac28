use Rattle.std.proofs.Common.{◌≡◌, ap, refl, ◌∙◌, arith}
use Rattle.coco_eval.specs.Keeping.{standing_of}
use Rattle.coco_eval.specs.Standing.{Asks, Evaluation}
use Rattle.coco_eval.proofs.StepLemmas.{given_of_run}
use Rattle.coco_eval.proofs.run.Run.give_lent.Goals as goal

pub invariant_of-self : goal.invariant_of-self
invariant_of-self c =
    let i = c.self.inside in
    let is : standing_of i.stage i.machine i.writes ≡ Asks c.requires.0 = ap (λ (e : Evaluation). e.standing) c.self.view_is ∙ c.requires.1 in
    given_of_run i.procs.value i.call.value i.number i.machine (record i.machine { given = c.add_given.new.values }) i.spare i.writes i.stage c.requires.0 _ is c.self.invariant
    c.add_given.ensures.items (omega (arith, c.add_given.ensures.room)) refl
