use Rattle.coco_ast.specs.Views.{expression_of}
use Rattle.coco_ast.proofs.PlanLemmas.{let_step, adds_alone, adds_on, adds_slot}
use Rattle.coco_ast.proofs.planning.let_step.Goals as goal

pub returns-clause-step : goal.returns-clause-step
returns-clause-step c =
    let_step c.term_of.new.slots c.slot.new.self c.term_of.new.terms.items c.args.name.now c.in_ok-slot.slot c.in_ok-value.value (expression_of c.args.value.now) c.in_ok-slot.ensures.names c.in_ok-slot.ensures.slot c.in_ok-value.ensures.stands

pub returns-clause-adds : goal.returns-clause-adds
returns-clause-adds c = adds_alone (adds_on c.in_ok-value.ensures.adds (adds_slot c.args.name.now c.in_ok-slot.ensures.names))
