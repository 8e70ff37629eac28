use Rattle.std.proofs.Common.{◌≡◌, ◌∷◌, [], ◌∙◌, arith}
use Rattle.json.specs.Token.{Token}
use Rattle.coco_lines.proofs.TextLemmas.{quoted_alone}
use Rattle.coco_lines.proofs.texts.put_string.Goals as goal

pub returns-clause-ok : goal.returns-clause-ok
returns-clause-ok c =
    let empty : c.string.new.self.before ≡ [] = grind arith in
    let one : c.string.new.self.tokens ≡ Token.string c.args.text.now ∷ [] = grind arith in
    let text = c.as_slice.ensures.value ∙ quoted_alone c.string.new.self.before c.args.text.now c.into_inner.result.items c.string.new.self.tokens empty one c.into_inner.ensures.items in
    rw text at c.put.ensures.ok
