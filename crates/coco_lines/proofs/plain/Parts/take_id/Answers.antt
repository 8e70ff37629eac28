use Rattle.std.proofs.Common.{◌≡◌, ◌∷◌, arith}
use Rattle.json.specs.Token.{Token}
use Rattle.json.specs.Reads.{token_of}
use Rattle.serde_json.specs.Data.{number, unsigned}
use Rattle.coco_lines.proofs.PlainLemmas.{with_id}
use Rattle.coco_lines.proofs.TokenLemmas.{number_read}
use Rattle.coco_lines.proofs.plain.Parts.take_id.Goals as goal

pub returns : goal.returns
returns c = λ ms h.
    let first : c.args.reader.now ≡ token_of c.in_ok-token.token ∷ c.next.new.self = grind arith in
    let is : c.args.reader.now ≡ Token.number c.in-Number.text.now ∷ c.next.new.self = grind (arith, first) in
    let n = c.in_ok-not_signed.field-0 in
    (number (unsigned n), number_read 126 _ _ _ (unsigned n) is c.in_ok-not_signed.ensures, with_id c.args.self.now ms h n)
