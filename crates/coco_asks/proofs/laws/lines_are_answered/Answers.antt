use Rattle.coco_asks.proofs.AskLemmas.{all_answered}
use Rattle.coco_asks.proofs.laws.lines_are_answered.Goals as goal

pub returns : goal.returns
returns c = all_answered
