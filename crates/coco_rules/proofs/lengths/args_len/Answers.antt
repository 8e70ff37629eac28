use Rattle.std.proofs.Common.{◌≡◌, ◌<◌, ◌≤◌, None, length, get_or, ap, ◌∙◌, arith}
use Rattle.std.specs.List.{sum_by}
use Rattle.std.specs.Option.{unwrap_or}
use Rattle.std.proofs.lemmas.List.{take_all}
use Rattle.std.proofs.lemmas.List.Concat.{length-flat_map}
use Rattle.std.proofs.lemmas.List.Sums.{sum_by_more}
use Rattle.std.proofs.lemmas.Option.{unwrap_or-slice_get}
use Rattle.coco_bytes.specs.Values.{value_bytes}
use Rattle.coco_rules.proofs.lengths.args_len.Goals as goal

pub loop-place-preserved : goal.loop-place-preserved
loop-place-preserved c =
    let xs = c.args.args.now in
    let i = c.loop-place.place in
    let x = c.unwrap_or-value.result in
    let lt : i < length xs = omega (arith, c.loop-place-test.true, c.len-place-end.ensures.len) in
    let is : x ≡ get_or xs i None = c.unwrap_or-value.ensures ∙ ap (λ o. unwrap_or o None) c.get.ensures ∙ unwrap_or-slice_get xs i None in
    let more = sum_by_more (λ x. length (value_bytes x)) xs i None lt in
    let len : c.value_len-len.result ≡ length (value_bytes (get_or xs i None)) = c.value_len-len.ensures.is ∙ ap (λ x. length (value_bytes x)) is in
    (omega (arith, more, len, c.loop-place.invariant.0), omega (arith, c.loop-place.invariant.1, c.value_len-len.ensures.few))

pub returns-clause-is : goal.returns-clause-is
returns-clause-is c =
    let xs = c.args.args.now in
    let i = c.loop-place.place in
    let all : length xs ≤ i = omega (arith, c.loop-place-test.false, c.len-place-end.ensures.len) in
    omega (arith, c.loop-place.invariant.0, ap (sum_by (λ x. length (value_bytes x))) (take_all i xs all), length-flat_map value_bytes xs)
