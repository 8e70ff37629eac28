use Rattle.std.proofs.lemmas.Str.{IsUtf8-from_ascii}
use Rattle.std.proofs.lemmas.Fmt.{IsAscii-from_digits}
use Rattle.coco_lex.proofs.front.is_wide.Goals as goal

-- digits are UTF-8
pub returns-in_default : goal.returns-in_default
returns-in_default c = absurd (c.in_default.ensures.cases.0 (IsUtf8-from_ascii c.args.digits.now (IsAscii-from_digits c.args.digits.now c.requires.1)))
