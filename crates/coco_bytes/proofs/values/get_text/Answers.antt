use Rattle.std.proofs.Common.{ℕ, ◌-◌, List, length, drop, Ok, sym, ap, ◌∙◌, arith}
use Rattle.std.proofs.lemmas.List.{length-take}
use Rattle.coco_bytes.proofs.ValueLemmas.{text_refused, text_taken}
use Rattle.coco_bytes.proofs.values.get_text.Goals as goal

pub returns-in_default-clause-read : goal.returns-in_default-clause-read
returns-in_default-clause-read c = sym (text_refused c.args.from.now c.args.at (c.in_ok-start.start, c.in_ok-start.end) (sym c.in_ok-start.ensures.read) c.in_default.ensures.cases.0)

pub returns-in-Some-clause-read : goal.returns-in-Some-clause-read
returns-in-Some-clause-read c =
    ap (λ (text : List ℕ). Ok (text, c.in_ok-start.end)) (c.in-Some.ensures ∙ c.in-Ok.ensures.cases.0)
    ∙ sym (text_taken c.args.from.now c.args.at (c.in_ok-start.start, c.in_ok-start.end) (sym c.in_ok-start.ensures.read) c.in-Ok.ensures.cases.1)

-- up to 256 bytes are a text
pub returns-in-None-clause-read : goal.returns-in-None-clause-read
returns-in-None-clause-read c =
    absurd (omega (arith, c.in-None.ensures, c.in_ok-start.ensures.most, ap length c.in-Ok.ensures.cases.0, length-take (c.in_ok-start.end - c.in_ok-start.start) (drop c.in_ok-start.start c.args.from.now)))
