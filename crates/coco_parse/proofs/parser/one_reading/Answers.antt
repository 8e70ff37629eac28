use Rattle.coco_parse.proofs.Verdicts.{one-reading}
use Rattle.coco_parse.proofs.parser.one_reading.Goals as goal

pub returns : goal.returns
returns c = one-reading
