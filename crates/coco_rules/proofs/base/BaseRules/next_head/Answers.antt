use Rattle.std.proofs.Common.{◌≡◌, true, false, refl, sym, ap, subst, ◌∙◌}
use Rattle.std.specs.Prelude.{is_some}
use Rattle.std.proofs.lemmas.Bool.{eqb-true, eq-eqb}
use Rattle.coco_bytes.specs.Lists.{last_item}
use Rattle.coco_store.specs.Entries.{Head}
use Rattle.coco_store.specs.Refusals.{order_place}
use Rattle.coco_store.specs.Rules.{MayFollow}
use Rattle.coco_rules.proofs.BasingLemmas.{behind_head, first_order, no_head, not_begun}
use Rattle.coco_rules.proofs.base.BaseRules.next_head.Goals as goal

pub returns-then-is_begun : goal.returns-then-is_begun
returns-then-is_begun c = λ s before behind.
    let head = c.args.head.now in
    let two =
    no_head s.entry.layout.base_epoch (last_item before) head (λ none. let w : true ≡ false = sym c.if-is_begun.true ∙ c.is_begun.ensures ∙ ap is_some (behind.last ∙ none) in cc) in
    first_order s before (Head head) 0 two.1 two.0

pub returns-then-not-is_of : goal.returns-then-not-is_of
returns-then-not-is_of c = λ s before behind.
    let head = c.args.head.now in
    let none = not_begun s before c.args.self.now behind (sym c.is_begun.ensures ∙ c.if-is_begun.false) in
    first_order s before (Head head) 1 (ap (λ o. order_place o (Head head)) none.0)
    (λ may.
    let same : head.epoch ≡ s.entry.layout.base_epoch = subst (λ o. MayFollow s.entry.layout.base_epoch o (Head head)) none.0 may in
    let w : true ≡ false = sym (eq-eqb head.epoch c.args.self.now.base_epoch (same ∙ sym behind.base_epoch)) ∙ sym c.is_of.ensures ∙ c.if-not-is_of.true in
    cc)

pub returns : goal.returns
returns c = λ s before behind.
    let head = c.args.head.now in
    let none = not_begun s before c.args.self.now behind (sym c.is_begun.ensures ∙ c.if-is_begun.false) in
    let same : head.epoch ≡ s.entry.layout.base_epoch = eqb-true head.epoch c.args.self.now.base_epoch (sym c.is_of.ensures ∙ c.if-not-is_of.false) ∙ behind.base_epoch in (
      record { order = subst (λ o. MayFollow s.entry.layout.base_epoch o (Head head)) (sym none.0) same; dones = tt; values = tt },
      behind_head s before head c.args.self.now _ behind none.1 refl refl refl refl refl refl refl,
    )
