use Rattle.std.proofs.Common.{rules, ◌≡◌, ◌<◌, ◌^◌, ◌-◌, length, map, ap, sym, subst, ◌∙◌, [], arith, to_z, of_z}
use Rattle.std.specs.Prelude.{◌+ℤ◌}
use Rattle.std.proofs.lemmas.Grind.{common_steps}
use Rattle.std.specs.List.Sorted.{IsStrictlySortedBy}
use Rattle.std.specs.Map.{keys_of}
use denote.Ref.{Bor}
use mir.Syntax.{w128}
use Rattle.coco_types.specs.RowKey.{RowKey, key_cmp}
use Rattle.coco_types.specs.declared.value.Value.{Value}
use Rattle.coco_load.proofs.LentMaps.{lent_entries}
use Rattle.coco_try.specs.Report.{sum_of_rows}
use Rattle.coco_try.proofs.SumLemmas.{IsSumOf, all_summed, passed128, passed64, row_fits, row_passed, row_summed, row_within, shown}
use Rattle.coco_try.proofs.report.sum_of.Goals as goal

pub loop-key-preserved : goal.loop-key-preserved
loop-key-preserved c =
    let e : RowKey × Bor Value = (c.in-Some.key.now, c.in-Some.value.now) in
    let rest = c.loop-key.key-iterator in
    let more = c.next.new.self in
    let rows = c.args.rows.now.entries in
    let is = c.in-Some.ensures.steps in
    let amount = c.amount_in.result in
    let fits = c.loop-key.invariant.fits in
    let within = c.loop-key.invariant.rest in
    let counted : length rows < 2 ^ 64 = omega arith in
    let value_is : c.from-sum.result ≡ amount = c.from-sum.ensures ∙ passed64 amount c.amount_in.type_inv in
    let value : to_z w128 (of_z w128 c.from-sum.result) ≡ amount = passed128 c.from-sum.result c.from-sum.type_inv ∙ value_is in
    let sum = to_z w128 c.loop-key.sum-bits in
    let new_is : to_z w128 (of_z w128 (sum +ℤ to_z w128 (of_z w128 c.from-sum.result))) ≡ sum +ℤ amount =
    ap (λ v. to_z w128 (of_z w128 (sum +ℤ v))) value ∙ row_passed sum amount e rest more rows is c.amount_in.type_inv within counted fits in
    record {
      sums = ap (λ s. s +ℤ sum_of_rows (map shown more)) new_is ∙ row_summed sum amount e rest more rows is c.amount_in.ensures c.loop-key.invariant.sums;
      fits = subst (IsSumOf (length rows - length more)) (sym new_is) (row_fits sum amount e rest more rows is c.amount_in.type_inv within fits);
      rest = row_within sum amount e rest more rows is within;
    }

pub returns : goal.returns
returns c =
    let rising : IsStrictlySortedBy key_cmp (keys_of c.args.rows.now.entries) = search rules in
    let none : c.loop-key.key-iterator ≡ [] = grind (arith, common_steps) in
    all_summed (to_z w128 c.loop-key.sum-bits) c.loop-key.key-iterator c.args.rows.now.entries none c.loop-key.invariant.sums ∙ ap sum_of_rows (lent_entries c.args.rows.now rising)
