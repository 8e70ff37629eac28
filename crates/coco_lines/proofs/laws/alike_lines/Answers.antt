use Rattle.coco_lines.proofs.AlikeLemmas.{alike_lines}
use Rattle.coco_lines.proofs.laws.alike_lines.Goals as goal

pub returns : goal.returns
returns c = alike_lines
