use Rattle.std.proofs.Common.{◌&&◌, List, [], nat_lt, sym, ap, subst, ◌∙◌, arith}
use Rattle.std.proofs.lemmas.List.{length-take-le}
use Rattle.coco_types.specs.Limits.{epochs_end}
use Rattle.std.specs.List.{AllByRecursion}
use Rattle.coco_entry.specs.declared.prepared.Row.{Row}
use Rattle.coco_store.specs.Rules.{IsNodeRow, prepared_epochs}
use Rattle.coco_rules.proofs.EpochLemmas.{above_last, epoch_is, no_epoch}
use Rattle.coco_rules.proofs.ReadyingLemmas.{each_row, first_prepared_epoch, first_row, rows_within}
use Rattle.coco_rules.proofs.prepared.NodeRules.next.Goals as goal

pub returns-then-not-goes_on-clause-judges : goal.returns-then-not-goes_on-clause-judges
returns-then-not-goes_on-clause-judges c = λ s committed before layout tree behind.
    let epoch = c.args.prepared.now.epoch in
    first_prepared_epoch s c.args.self.now.node before c.args.prepared.now
    (no_epoch s.entry.layout.base_epoch (prepared_epochs before) epoch (ap (λ n. nat_lt n epoch && nat_lt epoch epochs_end) (sym behind.last_epoch) ∙ sym c.goes_on.ensures ∙ c.if-not-goes_on.true))

pub slice_bounds-rows_len-end : goal.slice_bounds-rows_len-end
slice_bounds-rows_len-end c = sym (length-take-le c.in-Some.place c.as_slice-rows.result.now (omega (arith, c.in-Some.ensures.within)))

pub rows_len-requires : goal.rows_len-requires
rows_len-requires c = omega (arith, c.requires.fits, rows_within c.args.prepared.now c.as_slice-rows.result.now c.in-Some.place c.as_slice-rows.ensures)

pub overflow_add-result : goal.overflow_add-result
overflow_add-result c = omega (arith, c.requires.fits, c.rows_len.ensures, rows_within c.args.prepared.now c.as_slice-rows.result.now c.in-Some.place c.as_slice-rows.ensures)

pub returns-in-Some-clause-judges : goal.returns-in-Some-clause-judges
returns-in-Some-clause-judges c = λ s committed before layout tree behind.
    let epoch = c.args.prepared.now.epoch in
    let next = epoch_is s.entry.layout.base_epoch (prepared_epochs before) epoch (ap (λ n. nat_lt n epoch && nat_lt epoch epochs_end) (sym behind.last_epoch) ∙ sym c.goes_on.ensures ∙ c.if-not-goes_on.false) in
    first_row s c.args.self.now.node before c.args.prepared.now c.as_slice-rows.result.now c.in-Some.place c.rows_len.result c.as_slice-rows.ensures c.rows_len.ensures next
    (c.in-Some.ensures.found s layout tree)

pub returns-clause-judges : goal.returns-clause-judges
returns-clause-judges c = λ s committed before layout tree behind.
    let epoch = c.args.prepared.now.epoch in
    let node = c.args.self.now.node in
    let next = epoch_is s.entry.layout.base_epoch (prepared_epochs before) epoch (ap (λ n. nat_lt n epoch && nat_lt epoch epochs_end) (sym behind.last_epoch) ∙ sym c.goes_on.ensures ∙ c.if-not-goes_on.false) in
    let rows = subst (λ (l : List Row). AllByRecursion (IsNodeRow s node) l) c.as_slice-rows.ensures (each_row s node [] c.as_slice-rows.result.now (c.in_default.ensures.found s layout tree).0) in
    let gone = c.goes_to.ensures.behind s committed before (above_last s.entry.layout.base_epoch (prepared_epochs before) c.args.self.now.last_epoch epoch behind.last_epoch next) behind in
    (record { epoch = next; rows = rows }, gone.0, gone.1)
