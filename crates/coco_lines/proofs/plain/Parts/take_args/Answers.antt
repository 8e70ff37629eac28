use Rattle.std.proofs.Common.{◌≡◌, ◌∷◌, length, arith}
use Rattle.json.specs.Token.{Token}
use Rattle.json.specs.Json.{items, value}
use Rattle.json.specs.Reads.{token_of}
use Rattle.serde_json.specs.Data.{array}
use Rattle.serde_json.specs.Read.{of_items, converted}
use Rattle.coco_lines.specs.Reading.{args_of}
use Rattle.coco_lines.proofs.PlainLemmas.{with_args}
use Rattle.coco_lines.proofs.TokenLemmas.{converted_some, array_read}
use Rattle.coco_lines.proofs.plain.Parts.take_args.Goals as goal

pub returns : goal.returns
returns c = λ ms h.
    let s = c.next.new.self in
    let r = c.args_of.new.reader in
    let args = c.in_ok-args.args in
    let first : c.args.reader.now ≡ token_of c.in_ok-token.token ∷ s = grind arith in
    let is : c.args.reader.now ≡ Token.begin_array ∷ s = grind (arith, first) in
    let found = converted_some args_of (converted of_items (items (value 125) (length s) s)) args r c.in_ok-args.ensures in
    let many : length args ≡ c.len-self.result = cc (c.len-self.ensures.len) in
    (array found.0, array_read _ s r found.0 is found.1, with_args c.args.self.now ms h args c.len-self.result found.0 found.2 many)
