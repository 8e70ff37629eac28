use Rattle.coco_parallel.proofs.EpochLemmas.{ends_are_serial, tail_may_begin}
use Rattle.coco_parallel.proofs.laws.ends_are_serial.Goals as goal

pub returns-clause-begins : goal.returns-clause-begins
returns-clause-begins c = tail_may_begin c.closed_journals_are_lawful.ensures.lawful c.marks_are_own.ensures.execution c.commits_are_once.ensures c.reads_are_few.ensures c.scripts_are_few.ensures

pub returns-clause-serial : goal.returns-clause-serial
returns-clause-serial c =
    ends_are_serial c.closed_journals_are_lawful.ensures.lawful c.marks_are_own.ensures.execution c.commits_are_once.ensures c.reads_are_few.ensures c.scripts_are_few.ensures c.commits_are_serial.ensures c.times_are_few.ensures c.outcomes_are_serial.ensures c.outcomes_are_epochs.ensures
    c.pieces_are_of_dones.ensures
