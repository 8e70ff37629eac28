use Rattle.std.proofs.Common.{◌≡◌, ◌∷◌, arith}
use Rattle.json.specs.Token.{Token}
use Rattle.json.specs.Reads.{token_of}
use Rattle.serde_json.specs.Data.{boolean}
use Rattle.coco_lines.proofs.PlainLemmas.{with_snapshot}
use Rattle.coco_lines.proofs.TokenLemmas.{boolean_read}
use Rattle.coco_lines.proofs.plain.Parts.take_snapshot.Goals as goal

pub returns : goal.returns
returns c = λ ms h.
    let first : c.args.reader.now ≡ token_of c.in_ok-token.token ∷ c.next.new.self = grind arith in
    let is : c.args.reader.now ≡ Token.boolean c.in-Bool.asked ∷ c.next.new.self = grind (arith, first) in
    (boolean c.in-Bool.asked, boolean_read 126 _ _ _ is, with_snapshot c.args.self.now ms h c.in-Bool.asked)
