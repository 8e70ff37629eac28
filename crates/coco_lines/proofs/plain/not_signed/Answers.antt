use Rattle.std.proofs.Common.{false, ◌∙◌, ap, sym}
use Rattle.std.proofs.lemmas.Option.{IfSome_then}
use Rattle.serde_json.specs.Read.{number_of, number_from}
use Rattle.coco_lines.proofs.NumberLemmas.{whole_number, without_minus}
use Rattle.coco_lines.proofs.plain.not_signed.Goals as goal

pub returns : goal.returns
returns c =
    let text = ap number_of (sym c.as_bytes-digits.ensures.value) ∙ without_minus c.as_bytes-digits.result.now c.if-has_minus.ensures.value in
    IfSome_then c.to_u64.result (whole_number c.scan.result c.to_u64.result c.to_u64.ensures) (λ n is. text ∙ ap (number_from false) (sym c.scan.ensures.parts) ∙ is)
