use Rattle.std.proofs.Common.{◌∙◌, true, drop, ap, sym, arith, take_all, length-drop}
use Rattle.std.specs.Option.{option_and_then}
use Rattle.std.proofs.lemmas.Option.{IfSome_then}
use Rattle.fast_float.specs.Text.{scan}
use Rattle.serde_json.specs.Find.{as_i64}
use Rattle.serde_json.specs.Read.{number_of, number_from}
use Rattle.coco_lines.proofs.NumberLemmas.{with_minus, without_minus}
use Rattle.coco_lines.proofs.plain.signed.Goals as goal

pub returns-then-has_minus : goal.returns-then-has_minus
returns-then-has_minus c =
    let s = c.as_bytes-digits.result.now in
    let text = ap number_of (sym c.as_bytes-digits.ensures.value) ∙ with_minus s c.if-has_minus.ensures.value in
    let behind = ap (λ d. number_from true (scan d)) (sym (take_all _ (drop 1 s) (omega (arith, length-drop 1 s)))) in
    IfSome_then c.below_zero.result c.below_zero.ensures (λ n is. ap (option_and_then as_i64) (text ∙ behind ∙ is))

pub returns-else-has_minus : goal.returns-else-has_minus
returns-else-has_minus c =
    let text = ap number_of (sym c.as_bytes-digits.ensures.value) ∙ without_minus c.as_bytes-digits.result.now c.if-has_minus.ensures.value in
    IfSome_then c.not_below_zero.result c.not_below_zero.ensures (λ n is. ap (option_and_then as_i64) text ∙ is)
