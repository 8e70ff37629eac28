use Rattle.coco_order.proofs.Closed.{answers_fit, closed_is_lawful}
use Rattle.coco_order.proofs.laws.closed_journals_are_lawful.Goals as goal

pub returns-clause-lawful : goal.returns-clause-lawful
returns-clause-lawful c = closed_is_lawful

pub returns-clause-fits : goal.returns-clause-fits
returns-clause-fits c = answers_fit
