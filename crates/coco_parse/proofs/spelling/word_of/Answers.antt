use Rattle.std.proofs.Common.{◌≡◌, Some, None, sym, ap, ◌∙◌}
use Rattle.coco_parse.specs.Counting.{number_in}
use Rattle.coco_parse.proofs.spelling.word_of.Goals as goal

-- no keyword and no symbol is a number
pub returns-in-Keyword-clause-least : goal.returns-in-Keyword-clause-least
returns-in-Keyword-clause-least c n e =
    let some : Some n ≡ None = sym (ap number_in e) ∙ c.keyword_word.ensures.no_number in
    absurd (cc some)

pub returns-in-Symbol-clause-least : goal.returns-in-Symbol-clause-least
returns-in-Symbol-clause-least c n e =
    let some : Some n ≡ None = sym (ap number_in e) ∙ c.symbol_word.ensures.no_number in
    absurd (cc some)
