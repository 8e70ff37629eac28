use Rattle.std.proofs.Common.{refl, sym, arith}
use Rattle.coco_lex.specs.Lexeme.{keywords}
use Rattle.coco_lex.proofs.Fronts.{longer_than_all}
use Rattle.coco_lex.proofs.front.is_keyword.Goals as goal

pub returns-in_default-50 : goal.returns-in_default-50
returns-in_default-50 c = sym (longer_than_all keywords c.args.word.now 6 refl (omega (arith, c.in_default.len_at_least)))
