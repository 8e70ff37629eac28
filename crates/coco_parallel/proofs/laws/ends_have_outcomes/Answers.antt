use Rattle.coco_parallel.proofs.OutcomeLemmas.{dones_are_its_outcome, tail_may_run}
use Rattle.coco_parallel.proofs.laws.ends_have_outcomes.Goals as goal

pub returns-clause-ready : goal.returns-clause-ready
returns-clause-ready c = tail_may_run c.closed_journals_are_lawful.ensures.lawful c.marks_are_own.ensures.execution c.commits_are_serial.ensures

pub returns-clause-outcome : goal.returns-clause-outcome
returns-clause-outcome c = dones_are_its_outcome c.closed_journals_are_lawful.ensures.lawful c.commits_are_serial.ensures
