use Rattle.std.proofs.Common.{take, sym, ◌∙◌, arith}
use Rattle.std.proofs.lemmas.Bool.{iff_false}
use Rattle.coco_lex.specs.Lexeme.{keywords}
use Rattle.coco_lex.proofs.Fronts.{any_contains, long_word, keyword_front, name_front}
use Rattle.coco_lex.proofs.front.word.Goals as goal

pub returns-then-len-gt-MOST_NAME_BYTES : goal.returns-then-len-gt-MOST_NAME_BYTES
returns-then-len-gt-MOST_NAME_BYTES c = long_word c.args.rest.now c.word_len-len.result c.requires c.word_len-len.ensures (omega arith)

pub returns-then-is_keyword : goal.returns-then-is_keyword
returns-then-is_keyword c = keyword_front c.args.rest.now c.word_len-len.result c.requires c.word_len-len.ensures (omega arith) ((any_contains keywords (take c.word_len-len.result c.args.rest.now)).0 (sym c.is_keyword.ensures ∙ c.if-is_keyword.true))

pub returns-else-is_keyword : goal.returns-else-is_keyword
returns-else-is_keyword c = name_front c.args.rest.now c.word_len-len.result c.requires c.word_len-len.ensures (omega arith) (iff_false (any_contains keywords (take c.word_len-len.result c.args.rest.now)) (sym c.is_keyword.ensures ∙ c.if-is_keyword.false))
