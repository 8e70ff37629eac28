use Rattle.std.proofs.Common.{◌≡◌, ◌++◌, ◌∙◌, ap}
use Rattle.json.specs.Print.{quoted}
use Rattle.coco_lines.specs.Texts.{error_word}
use Rattle.coco_lines.proofs.TextLemmas.{on_ok, four_pieces, error_is}
use Rattle.coco_lines.proofs.texts.put_error.Goals as goal

pub returns-clause-ok : goal.returns-clause-ok
returns-clause-ok c =
    let old = c.args.out.now.items in
    let word : c.put_string.new.out.items ≡ c.put.new.out.items ++ quoted (error_word c.args.error) = c.in_ok-put_string.ensures.ok ∙ ap (λ s. c.put.new.out.items ++ quoted s) c.word_of.ensures in
    on_ok c.put-2.result c.put-2.ensures.ok
    (λ put. four_pieces _ _ _ _ _ _ _ _ _ c.in_ok-put.ensures.ok word c.in_ok-put_count.ensures.ok put ∙ ap (λ text. old ++ text) (error_is c.args.error c.args.line))
