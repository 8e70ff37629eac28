use Rattle.std.proofs.Common.{refl}
use Rattle.coco_lex.proofs.Readings.{front_token}
use Rattle.coco_lex.proofs.lexer.token_at.Goals as goal

pub returns-in-Ok : goal.returns-in-Ok
returns-in-Ok c = (refl, front_token c.args.text.now c.args.at c.in-Ok.front.len c.in-Ok.front.kind c.in-Ok.ensures)
