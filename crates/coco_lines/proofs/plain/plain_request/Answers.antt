use Rattle.std.proofs.Common.{◌≡◌, ◌∙◌, Some, [], arith, ap}
use Rattle.std.proofs.lemmas.Option.{IfSome_then}
use Rattle.json.specs.Json.{value}
use Rattle.json.specs.Lex.{tokens}
use Rattle.serde_json.specs.Data.{object}
use Rattle.serde_json.specs.Read.{of_json, converted}
use Rattle.coco_lines.specs.Reading.{request_in}
use Rattle.coco_lines.proofs.TokenLemmas.{whole_text}
use Rattle.coco_lines.proofs.plain.plain_request.Goals as goal

pub returns : goal.returns
returns c =
    let found = c.in_ok-parts.ensures in
    let all : c.in_ok-reader.reader ≡ tokens c.args.text.now = grind arith in
    let over : c.object_parts.new.reader ≡ [] = grind arith in
    let is : converted of_json (value 127 (tokens c.args.text.now)) ≡ Some (object found.0, []) = rw (all, over) at found.1 in
    IfSome_then c.request.result c.request.ensures (λ request asks. ap (request_in c.args.procs.now) (whole_text c.args.text.now (object found.0) is) ∙ asks found.0 found.2)
