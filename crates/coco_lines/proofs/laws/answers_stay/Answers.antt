use Rattle.coco_lines.proofs.ReplyLemmas.{answers_still}
use Rattle.coco_lines.proofs.laws.answers_stay.Goals as goal

pub returns : goal.returns
returns c = λ procs before batches more cs ds g k first grows further. answers_still procs before batches more cs ds g k first grows further
