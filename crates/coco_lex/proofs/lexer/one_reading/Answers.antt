use Rattle.coco_lex.proofs.Readings.{one_reading}
use Rattle.coco_lex.proofs.lexer.one_reading.Goals as goal

pub returns : goal.returns
returns c = one_reading
