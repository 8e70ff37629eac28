use Rattle.coco_ship.specs.Sending.{AnswersOf}
use Rattle.coco_ship.proofs.AnswerLemmas.{AreAnsweredTo}
use Rattle.coco_ship.proofs.answer.answers_of.Given as goal

-- the copies so far have answered
abbrev pub invariant-loop-copy : goal.invariant-loop-copy
invariant-loop-copy l = record {
  letters : AnswersOf l.ring l.epoch l.partition l.initial.lines l.copy l.initial.letters.items l.letters.items;
  lines : AreAnsweredTo l.ring l.partition l.copy l.initial.lines l.lines;
}
