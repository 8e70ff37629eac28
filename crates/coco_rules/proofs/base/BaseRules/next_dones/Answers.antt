use Rattle.std.proofs.Common.{◌++◌, refl, sym, ap, ◌∙◌, arith}
use Rattle.std.proofs.lemmas.List.{length-take-le}
use Rattle.coco_bytes.specs.Lists.{last_item}
use Rattle.coco_store.specs.Entries.{Dones}
use Rattle.coco_store.specs.Rules.{IsKeptDone, kept_dones}
use Rattle.coco_rules.specs.Basing.{may_be_dones}
use Rattle.coco_rules.specs.Noting.{AreNoted}
use Rattle.coco_rules.proofs.BasingLemmas.{behind_dones, dones_may, first_kept, first_order, kept_within, no_dones, order_dones}
use Rattle.coco_rules.proofs.JudgedLemmas.{found_at, found_none}
use Rattle.coco_rules.proofs.base.BaseRules.next_dones.Goals as goal

pub returns-then-not-may_be_dones : goal.returns-then-not-may_be_dones
returns-then-not-may_be_dones c = λ s before tree behind.
    let dones = c.args.dones.now in
    first_order s before (Dones dones) 0 (order_dones (last_item before) dones)
    (no_dones s.entry.layout.base_epoch (last_item before) dones (ap may_be_dones (sym behind.last) ∙ sym c.may_be_dones.ensures ∙ c.if-not-may_be_dones.true))

pub slice_bounds-base_dones_len-end : goal.slice_bounds-base_dones_len-end
slice_bounds-base_dones_len-end c =
    let within = rw c.in-Some.is at c.in_ok-place.ensures.within in
    sym (length-take-le c.in-Some.place c.args.dones.now (omega (arith, within)))

pub base_dones_len-requires : goal.base_dones_len-requires
base_dones_len-requires c = omega (arith, c.requires, kept_within c.args.dones.now c.in-Some.place)

pub overflow_add-result : goal.overflow_add-result
overflow_add-result c = omega (arith, c.requires, c.base_dones_len.ensures, kept_within c.args.dones.now c.in-Some.place)

pub returns-in-Some : goal.returns-in-Some
returns-in-Some c = λ s before tree behind.
    let dones = c.args.dones.now in
    let may = dones_may s.entry.layout.base_epoch (last_item before) dones (ap may_be_dones (sym behind.last) ∙ sym c.may_be_dones.ensures ∙ c.if-not-may_be_dones.false) in
    first_kept s before dones c.in-Some.place c.base_dones_len.result c.base_dones_len.ensures may
    (found_at c.in_ok-place.field-0 c.in-Some.place (IsKeptDone s) (kept_dones before) dones (AreNoted s.entry.keep (kept_dones before ++ dones) c.first_broken_done.new.noted) c.in-Some.is
    (c.in_ok-place.ensures.found s (kept_dones before) tree (sym behind.base_epoch) behind.noted))

pub returns : goal.returns
returns c = λ s before tree behind.
    let dones = c.args.dones.now in
    let may = dones_may s.entry.layout.base_epoch (last_item before) dones (ap may_be_dones (sym behind.last) ∙ sym c.may_be_dones.ensures ∙ c.if-not-may_be_dones.false) in
    let found =
    found_none c.in_ok-place.field-0 (IsKeptDone s) (kept_dones before) dones (AreNoted s.entry.keep (kept_dones before ++ dones) c.first_broken_done.new.noted) c.in_default.is
    (c.in_ok-place.ensures.found s (kept_dones before) tree (sym behind.base_epoch) behind.noted) in
    (record { order = may; dones = found.0; values = tt }, behind_dones s before dones c.args.self.now _ behind may found.1 refl refl refl c.less-self.ensures refl refl)
