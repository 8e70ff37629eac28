use Rattle.coco_recover.proofs.LeftOut.{held_or_refused, one_refusal_but}
use Rattle.coco_recover.proofs.without.a_store_refused_but_for_a_node_is_none.Goals as goal

pub returns-clause-none : goal.returns-clause-none
returns-clause-none c = held_or_refused

pub returns-clause-one : goal.returns-clause-one
returns-clause-one c = one_refusal_but
