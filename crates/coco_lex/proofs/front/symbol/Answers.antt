use Rattle.std.proofs.Common.{arith}
use Rattle.coco_lex.proofs.Fronts.{stray, symbol_front, symbol_class_of}
use Rattle.coco_lex.proofs.front.symbol.Goals as goal

pub returns-then-len-eq0 : goal.returns-then-len-eq0
returns-then-len-eq0 c =
    stray c.args.rest.now (symbol_class_of _ c.requires.no_word c.requires.no_digit c.requires.no_quote) c.requires.no_quote
    (λ m p w h. c.symbol_len-len.ensures.longest m (omega arith) w h)

pub returns : goal.returns
returns c =
    symbol_front c.args.rest.now c.symbol_len-len.result (symbol_class_of _ c.requires.no_word c.requires.no_digit c.requires.no_quote)
    (omega arith) c.symbol_len-len.ensures.within (c.symbol_len-len.ensures.found (omega arith)) c.symbol_len-len.ensures.longest
