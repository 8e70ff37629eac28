use Rattle.std.proofs.Common.{◌≡◌, ◌∷◌, None, Some, arith, to_z, of_z, w64, to_z-of_z}
use Rattle.std.proofs.lemmas.Option.{IfSome_then}
use Rattle.json.specs.Token.{Token}
use Rattle.json.specs.Reads.{token_of}
use Rattle.coco_types.specs.declared.value.Value.TheVariants.{Int, Text}
use Rattle.coco_lines.proofs.TokenLemmas.{null_arg, int_arg, text_arg}
use Rattle.coco_lines.proofs.plain.push_arg.Goals as goal

pub returns-in-Null : goal.returns-in-Null
returns-in-Null c =
    let first : c.args.reader.now ≡ token_of c.in_ok-token.token ∷ c.next.new.self = grind arith in
    let is : c.args.reader.now ≡ Token.null ∷ c.next.new.self = grind (arith, first) in
    IfSome_then c.push_none.result c.push_none.ensures (λ _ pushed. (None, null_arg _ _ is, pushed))

pub returns-in_ok-signed-in-Number : goal.returns-in_ok-signed-in-Number
returns-in_ok-signed-in-Number c =
    let first : c.args.reader.now ≡ token_of c.in_ok-token.token ∷ c.next.new.self = grind arith in
    let is : c.args.reader.now ≡ Token.number c.in-Number.text.now ∷ c.next.new.self = grind (arith, first) in
    let n = c.in_ok-signed-in-Number.field-0 in
    let same : to_z w64 (of_z w64 n) ≡ n = grind (arith, to_z-of_z) in
    let means = c.in_ok-signed-in-Number.ensures in
    IfSome_then c.push_int.result c.push_int.ensures (λ _ pushed. (Some (Int n), int_arg _ _ _ n is means, rw same at pushed))

pub returns-in-String : goal.returns-in-String
returns-in-String c =
    let first : c.args.reader.now ≡ token_of c.in_ok-token.token ∷ c.next.new.self = grind arith in
    let is : c.args.reader.now ≡ Token.string c.in-String.text.now ∷ c.next.new.self = grind (arith, first) in
    IfSome_then c.push_text.result c.push_text.ensures (λ _ pushed. (Some (Text c.in-String.text.now), text_arg _ _ _ is pushed.0, pushed.1))
