use Rattle.std.proofs.Common.{◌≡◌, ◌∷◌, arith}
use Rattle.json.specs.Token.{Token}
use Rattle.json.specs.Reads.{token_of}
use Rattle.serde_json.specs.Data.{string}
use Rattle.coco_lines.proofs.PlainLemmas.{with_call}
use Rattle.coco_lines.proofs.TokenLemmas.{text_read}
use Rattle.coco_lines.proofs.plain.Parts.take_call.Goals as goal

pub returns : goal.returns
returns c = λ ms h.
    let first : c.args.reader.now ≡ token_of c.in_ok-token.token ∷ c.next.new.self = grind arith in
    let is : c.args.reader.now ≡ Token.string c.in-String.text.now ∷ c.next.new.self = grind (arith, first) in
    (string c.in-String.text.now, text_read 126 _ _ _ is, with_call c.args.self.now ms h c.in-String.text)
