use Rattle.std.proofs.Common.{◌≡◌, ◌∙◌, Some, None, ap}
use Rattle.std.proofs.lemmas.Result.{IfOk-weaker}
use Rattle.serde_json.specs.Read.{read}
use Rattle.coco_lines.specs.declared.error.LineError.TheVariants.{Json}
use Rattle.coco_lines.proofs.ReadingLemmas.{json_of-none, json_of-text, asking_is, request_is}
use Rattle.coco_lines.proofs.requests.asked_request.Goals as goal

pub returns-in_default-clause-line : goal.returns-in_default-clause-line
returns-in_default-clause-line c = λ e is.
    let json : Json ≡ e = cc in
    asking_is c.args.procs.now c.args.line.now None (json_of-none c.args.line.now (λ utf8. absurd (c.in_default.ensures.cases.0 utf8))) ∙ ap Some json

pub returns-in-Some-clause-ok : goal.returns-in-Some-clause-ok
returns-in-Some-clause-ok c =
    request_is c.args.procs.now c.args.line.now (read c.in-Ok.text.now) (json_of-text c.args.line.now c.in-Ok.text.now c.in-Ok.ensures.cases.0 c.in-Ok.ensures.cases.1) ∙ c.in-Some.ensures

pub returns-in-None-clause-ok : goal.returns-in-None-clause-ok
returns-in-None-clause-ok c =
    let text = request_is c.args.procs.now c.args.line.now (read c.in-Ok.text.now) (json_of-text c.args.line.now c.in-Ok.text.now c.in-Ok.ensures.cases.0 c.in-Ok.ensures.cases.1) in
    IfOk-weaker c.any_request.result _ _ (λ request is. text ∙ is) c.any_request.ensures.ok

pub returns-in-None-clause-line : goal.returns-in-None-clause-line
returns-in-None-clause-line c = λ e is.
    asking_is c.args.procs.now c.args.line.now (read c.in-Ok.text.now) (json_of-text c.args.line.now c.in-Ok.text.now c.in-Ok.ensures.cases.0 c.in-Ok.ensures.cases.1) ∙ c.any_request.ensures.line e is
