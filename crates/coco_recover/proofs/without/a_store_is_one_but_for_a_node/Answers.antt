use Rattle.coco_recover.proofs.LeftOut.{behind_gates_but, good_stores_but, stores_but}
use Rattle.coco_recover.proofs.without.a_store_is_one_but_for_a_node.Goals as goal

pub returns-clause-any : goal.returns-clause-any
returns-clause-any c = stores_but

pub returns-clause-good : goal.returns-clause-good
returns-clause-good c = good_stores_but

pub returns-clause-gates : goal.returns-clause-gates
returns-clause-gates c = behind_gates_but
