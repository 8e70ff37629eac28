use Rattle.std.proofs.Common.{◌≡◌, take}
use Rattle.coco_batches.specs.Answering.{held_texts}
use Rattle.coco_batches.proofs.answer.texts_of.Given as goal

abbrev pub invariant-loop-answer : goal.invariant-loop-answer
invariant-loop-answer l = l.texts.items ≡ held_texts l.kept.dones (take l.answer-index l.answers)
