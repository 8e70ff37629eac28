-- What lines are answered with, as it is held until their batch is committed.
use Rattle.std.specs.Prelude.{ℕ, ◌+◌, List, [], ◌∷◌, ◌++◌, Option, None, Some}
use Rattle.coco_types.specs.declared.call.Done.{Done}
use Rattle.coco_ast.specs.History.{done_of}
use Rattle.coco_lines.specs.Answers.{text_of}
use Rattle.coco_lines.specs.Texts.{done_text, error_text}
use Rattle.coco_lines.specs.declared.class.Class.{Class}
use Rattle.coco_lines.specs.declared.class.Class.TheVariants.{Refused, Same, New}
use Rattle.coco_batches.specs.declared.answer.LineAnswer.{LineAnswer}
use Rattle.coco_batches.specs.declared.answer.LineAnswer.TheVariants as answer

-- what a request of this id is answered with: the text of its Done, where it is kept before the batch is committed
abbrev pub reply_to : ℕ → Option Done → LineAnswer
reply_to id None = answer.New id
reply_to id (Some d) = answer.Kept (done_text d)

-- the answer of the line with this number, by what is kept when it is read
abbrev pub answer_of : List Done → ℕ → Class → LineAnswer
answer_of dones n (Refused e) = answer.Error e n
answer_of dones n (Same id) = reply_to id (done_of id dones)
answer_of dones n (New r) = reply_to r.id (done_of r.id dones)

abbrev pub answers_from : List Done → ℕ → List Class → List LineAnswer
answers_from dones n [] = []
answers_from dones n (c ∷ cs) = answer_of dones n c ∷ answers_from dones (n + 1) cs

-- the text of an answer, by what is kept once the batch is committed
abbrev pub held_text : List Done → LineAnswer → List ℕ
held_text dones (answer.Error e n) = error_text e n
held_text dones (answer.Kept text) = text
held_text dones (answer.New id) = text_of (done_of id dones)

abbrev pub held_texts : List Done → List LineAnswer → List ℕ
held_texts dones [] = []
held_texts dones (a ∷ answers) = held_text dones a ++ held_texts dones answers
