use Rattle.std.proofs.Common.{refl, sym, ap, ◌∙◌, arith}
use Rattle.std.proofs.lemmas.List.{length-take-le}
use Rattle.coco_bytes.specs.Lists.{last_item}
use Rattle.coco_store.specs.Entries.{Values}
use Rattle.coco_store.specs.Rules.{base_values}
use Rattle.coco_rules.specs.Basing.{may_be_rows}
use Rattle.coco_rules.proofs.BasingLemmas.{behind_rows, first_order, first_value, no_rows, order_rows, rows_may, values_within}
use Rattle.coco_rules.proofs.base.BaseRules.next_rows.Goals as goal

pub returns-then-not-may_be_rows : goal.returns-then-not-may_be_rows
returns-then-not-may_be_rows c = λ s before tree behind.
    let rows = c.args.rows.now in
    first_order s before (Values rows) 0 (order_rows (last_item before) rows)
    (no_rows s.entry.layout.base_epoch (last_item before) rows (ap may_be_rows (sym behind.last) ∙ sym c.may_be_rows.ensures ∙ c.if-not-may_be_rows.true))

pub slice_bounds-base_rows_len-end : goal.slice_bounds-base_rows_len-end
slice_bounds-base_rows_len-end c = sym (length-take-le c.in-Some.place c.args.rows.now (omega (arith, c.in-Some.ensures.within)))

pub base_rows_len-requires : goal.base_rows_len-requires
base_rows_len-requires c = omega (arith, c.requires, values_within c.args.rows.now c.in-Some.place)

pub overflow_add-result : goal.overflow_add-result
overflow_add-result c = omega (arith, c.requires, c.base_rows_len.ensures, values_within c.args.rows.now c.in-Some.place)

pub returns-in-Some : goal.returns-in-Some
returns-in-Some c = λ s before tree behind.
    let rows = c.args.rows.now in
    let may = rows_may s.entry.layout.base_epoch (last_item before) rows (ap may_be_rows (sym behind.last) ∙ sym c.may_be_rows.ensures ∙ c.if-not-may_be_rows.false) in
    first_value s before rows c.in-Some.place c.base_rows_len.result c.base_rows_len.ensures may (c.in-Some.ensures.found s (base_values before) tree behind.key)

pub returns : goal.returns
returns c = λ s before tree behind.
    let rows = c.args.rows.now in
    let may = rows_may s.entry.layout.base_epoch (last_item before) rows (ap may_be_rows (sym behind.last) ∙ sym c.may_be_rows.ensures ∙ c.if-not-may_be_rows.false) in
    let found = c.in_default.ensures.found s (base_values before) tree behind.key in
    (record { order = may; dones = tt; values = found.0 }, behind_rows s before rows c.args.self.now _ behind may found.1 refl refl refl refl refl c.less-self.ensures)
