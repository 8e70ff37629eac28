use Rattle.coco_copy.proofs.Greatest.{greatest_pends, greatest_answers, same_epoch, same_stable}
use Rattle.coco_copy.proofs.law.greatest_time_wins.Goals as goal

pub returns-clause-pending : goal.returns-clause-pending
returns-clause-pending c = greatest_pends

pub returns-clause-answers : goal.returns-clause-answers
returns-clause-answers c = greatest_answers

pub returns-clause-epoch : goal.returns-clause-epoch
returns-clause-epoch c = same_epoch

pub returns-clause-stable : goal.returns-clause-stable
returns-clause-stable c = same_stable
