use Rattle.coco_init.proofs.TextLemmas.{one_answer}
use Rattle.coco_init.proofs.text.one_answer.Goals as goal

pub returns : goal.returns
returns c = λ text. one_answer text (c.one_reading.ensures text) (c.one_reading-2.ensures text)
