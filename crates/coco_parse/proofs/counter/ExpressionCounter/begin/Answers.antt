use Rattle.coco_parse.proofs.Counters.{expression_begun}
use Rattle.coco_parse.proofs.counter.ExpressionCounter.begin.Goals as goal

pub returns : goal.returns
returns c ws w b = expression_begun ws w b
