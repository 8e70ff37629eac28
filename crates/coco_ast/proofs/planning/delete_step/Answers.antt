use Rattle.coco_ast.specs.Views.{place_of}
use Rattle.coco_ast.proofs.PlanLemmas.{delete_step, adds_alone}
use Rattle.coco_ast.proofs.planning.delete_step.Goals as goal

pub returns-clause-step : goal.returns-clause-step
returns-clause-step c = delete_step c.spot_of.new.slots c.spot_of.new.terms.items c.in_ok-spot.spot (place_of c.args.place.now) c.in_ok-spot.ensures.stands

pub returns-clause-adds : goal.returns-clause-adds
returns-clause-adds c = adds_alone (adds_alone c.in_ok-spot.ensures.adds)
