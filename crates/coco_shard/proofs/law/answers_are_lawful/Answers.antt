use Rattle.coco_shard.proofs.LawLemmas.{answers_lawful, answers_rows}
use Rattle.coco_shard.proofs.law.answers_are_lawful.Goals as goal

pub returns-clause-journal : goal.returns-clause-journal
returns-clause-journal c = answers_lawful

pub returns-clause-rows : goal.returns-clause-rows
returns-clause-rows c = answers_rows
