use Rattle.coco_ast.specs.Views.{expression_of, place_of}
use Rattle.coco_ast.proofs.PlanLemmas.{put_step, adds_alone, adds_on}
use Rattle.coco_ast.proofs.planning.put_step.Goals as goal

pub returns-clause-step : goal.returns-clause-step
returns-clause-step c =
    put_step c.spot_of.new.slots c.term_of.new.slots c.spot_of.new.terms.items c.term_of.new.terms.items c.in_ok-spot.spot (place_of c.args.place.now) c.in_ok-value.value (expression_of c.args.value.now)
    c.in_ok-value.ensures.adds c.in_ok-spot.ensures.stands c.in_ok-value.ensures.stands

pub returns-clause-adds : goal.returns-clause-adds
returns-clause-adds c = adds_alone (adds_alone (adds_on c.in_ok-spot.ensures.adds c.in_ok-value.ensures.adds))
