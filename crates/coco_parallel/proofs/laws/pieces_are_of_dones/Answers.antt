use Rattle.coco_parallel.proofs.PieceLemmas.{pieces_are_of_dones}
use Rattle.coco_parallel.proofs.laws.pieces_are_of_dones.Goals as goal

pub returns : goal.returns
returns c = pieces_are_of_dones c.closed_journals_are_lawful.ensures.lawful c.commits_are_serial.ensures c.outcomes_are_epochs.ensures c.writes_are_runs.ensures c.tail_writes_are_runs.ensures
