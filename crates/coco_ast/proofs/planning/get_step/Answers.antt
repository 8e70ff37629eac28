use Rattle.coco_ast.specs.Views.{place_of}
use Rattle.coco_ast.proofs.PlanLemmas.{get_step, adds_alone, adds_on, adds_slot}
use Rattle.coco_ast.proofs.planning.get_step.Goals as goal

pub returns-clause-step : goal.returns-clause-step
returns-clause-step c =
    get_step c.spot_of.new.slots c.slot.new.self c.spot_of.new.terms.items c.args.name.now c.in_ok-slot.slot c.in_ok-spot.spot (place_of c.args.place.now) c.in_ok-slot.ensures.names c.in_ok-slot.ensures.slot c.in_ok-spot.ensures.stands

pub returns-clause-adds : goal.returns-clause-adds
returns-clause-adds c = adds_alone (adds_on c.in_ok-spot.ensures.adds (adds_slot c.args.name.now c.in_ok-slot.ensures.names))
