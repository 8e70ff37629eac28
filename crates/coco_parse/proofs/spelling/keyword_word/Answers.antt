use Rattle.std.proofs.Common.{rules, sym, ◌∙◌}
use Rattle.coco_parse.specs.Wording.{keyword_words}
use Rattle.coco_parse.proofs.Spellings.{spelled_length, no_keyword}
use Rattle.coco_parse.proofs.spelling.keyword_word.Goals as goal

pub returns-in-2-clause-spelled : goal.returns-in-2-clause-spelled
returns-in-2-clause-spelled c = c.keyword_of_two.ensures.spelled ∙ sym (spelled_length keyword_words c.args.bytes.now 2 c.in-2.is)

pub returns-in-3-clause-spelled : goal.returns-in-3-clause-spelled
returns-in-3-clause-spelled c = c.keyword_of_three.ensures.spelled ∙ sym (spelled_length keyword_words c.args.bytes.now 3 c.in-3.is)

pub returns-in-4-clause-spelled : goal.returns-in-4-clause-spelled
returns-in-4-clause-spelled c = c.keyword_of_four.ensures.spelled ∙ sym (spelled_length keyword_words c.args.bytes.now 4 c.in-4.is)

pub returns-in-5-clause-spelled : goal.returns-in-5-clause-spelled
returns-in-5-clause-spelled c = c.keyword_of_five.ensures.spelled ∙ sym (spelled_length keyword_words c.args.bytes.now 5 c.in-5.is)

pub returns-in-6-clause-spelled : goal.returns-in-6-clause-spelled
returns-in-6-clause-spelled c = c.keyword_of_six.ensures.spelled ∙ sym (spelled_length keyword_words c.args.bytes.now 6 c.in-6.is)

pub returns-in_default-clause-spelled : goal.returns-in_default-clause-spelled
returns-in_default-clause-spelled c = sym (no_keyword c.args.bytes.now (search rules) (search rules) (search rules) (search rules) (search rules))
