use Rattle.std.proofs.lemmas.Bool.{iff_false}
use Rattle.coco_lex.proofs.Fronts.{wide_number, number_front, digits_front}
use Rattle.coco_lex.proofs.front.number.Goals as goal

pub is_wide-requires : goal.is_wide-requires
is_wide-requires c = digits_front c.args.rest.now c.digits_len-len.result c.requires c.digits_len-len.ensures

pub returns-then-is_wide : goal.returns-then-is_wide
returns-then-is_wide c = wide_number c.args.rest.now c.digits_len-len.result c.requires c.digits_len-len.ensures (c.is_wide.ensures.0 c.if-is_wide.true)

pub returns : goal.returns
returns c = number_front c.args.rest.now c.digits_len-len.result c.requires c.digits_len-len.ensures (iff_false c.is_wide.ensures c.if-is_wide.false)
