use Rattle.std.proofs.Common.{◌≡◌, List, length}
use Rattle.coco_order.specs.Execution.{Journal}
use Rattle.coco_parallel.specs.Ends.{AreCommitted}
use Rattle.coco_parallel.specs.Epochs.{execution_with}
use Rattle.coco_parallel.proofs.ToldLemmas.{flags_are}
use Rattle.coco_parallel.proofs.tail.left_over.Goals as goal
use Rattle.coco_parallel.proofs.tail.left_over.Goals.{After-as_slice-flags}

are : (c : After-as_slice-flags) → (length c.as_slice-flags.result.now ≡ length c.args.requests.now) × ((journals : List Journal) → AreCommitted (execution_with journals c.args.transcripts.now) c.as_slice-flags.result.now)
are c = flags_are c.args.transcripts.now c.in_ok-committed.committed c.as_slice-flags.result.now (length c.args.requests.now) c.as_slice-flags.ensures.value c.in_ok-committed.ensures.count c.in_ok-committed.ensures.each

pub tail_of-requires-clause-count : goal.tail_of-requires-clause-count
tail_of-requires-clause-count c = (are (goal.at.tail_of-requires-clause-count c).After-as_slice-flags).0

pub told_tail-requires : goal.told_tail-requires
told_tail-requires c = record { count = (are (goal.at.told_tail-requires c).After-as_slice-flags).0 }

pub returns-clause-requests : goal.returns-clause-requests
returns-clause-requests c journals = c.in_ok-tail.ensures.requests (execution_with journals c.args.transcripts.now) ((are (goal.at.returns-clause-requests c).After-as_slice-flags).1 journals)

pub returns-clause-told : goal.returns-clause-told
returns-clause-told c journals = c.in_ok-told.ensures journals ((are (goal.at.returns-clause-told c).After-as_slice-flags).1 journals)
