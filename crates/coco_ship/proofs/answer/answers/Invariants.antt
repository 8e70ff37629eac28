use Rattle.coco_ship.proofs.AnswerLemmas.{AreAnswersTo}
use Rattle.coco_ship.proofs.answer.answers.Given as goal

-- the copies of the partitions so far have answered
abbrev pub invariant-loop-partition : goal.invariant-loop-partition
invariant-loop-partition l = AreAnswersTo l.ring l.epoch l.initial.lines l.partition l.lines l.letters.items
