use Rattle.std.proofs.lemmas.Str.{IsUtf8-from_ascii}
use Rattle.std.proofs.lemmas.Fmt.{IsAscii-from_digits}
use Rattle.coco_parse.proofs.spelling.number_word.Goals as goal

-- digits are UTF-8
pub unreachable-requires : goal.unreachable-requires
unreachable-requires c = c.in_default.ensures.cases.0 (IsUtf8-from_ascii c.args.bytes.now (IsAscii-from_digits c.args.bytes.now c.requires.digits.1))
