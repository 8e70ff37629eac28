use Rattle.coco_ast.proofs.PlanLemmas.{place_stands}
use Rattle.coco_ast.proofs.planning.spot_of.Goals as goal

pub returns-clause-stands : goal.returns-clause-stands
returns-clause-stands c = place_stands c.term_of.new.slots c.term_of.new.terms.items c.copied.result c.in_ok-row.row c.args.place.now c.in_ok-row.ensures.stands c.copied.ensures.value
