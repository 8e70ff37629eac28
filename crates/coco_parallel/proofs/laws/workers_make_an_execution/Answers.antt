use Rattle.coco_parallel.proofs.EndLemmas.{are_an_execution, shards_have_rows}
use Rattle.coco_parallel.proofs.laws.workers_make_an_execution.Goals as goal

pub returns-clause-execution : goal.returns-clause-execution
returns-clause-execution c = are_an_execution c.closed_journals_are_lawful.ensures.lawful

pub returns-clause-rows : goal.returns-clause-rows
returns-clause-rows c = shards_have_rows c.closed_journals_are_lawful.ensures.lawful
