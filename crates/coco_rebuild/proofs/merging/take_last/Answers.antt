use Rattle.std.proofs.Common.{◌≡◌, sym, ap, ◌∙◌, true, false}
use Rattle.std.specs.Prelude.{option_copied, slice_get, length, ◌-◌}
use Rattle.coco_rebuild.proofs.Taking.{first_alone_left, first_of_both, is_less, is_not_less, last_got, popped, second_alone_left, second_of_both}
use Rattle.coco_rebuild.proofs.merging.take_last.Goals as goal
use Rattle.coco_rebuild.proofs.merging.take_last.Goals.{in-Some-Some, in-Some-None, in-None-default}

pub returns-then-is_other : goal.returns-then-is_other
returns-then-is_other c =
    let rows = c.args.rows.now.items in
    let others = c.args.others.now.items in
    let last = last_got rows ∙ ap (λ l. slice_get l (length l - 1)) (sym c.deref.ensures.value) ∙ sym c.last.ensures.value in
    let also = last_got others ∙ ap (λ l. slice_get l (length l - 1)) (sym c.deref-2.ensures.value) ∙ sym c.last-2.ensures.value in
    let pop = popped others c.pop.new.self.items c.pop.result c.args.others.now.len c.pop.new.self.len c.pop.ensures.items c.args.others.now.ok.0 c.pop.ensures.cases in
    elim c.match-last.branch [
      | in-Some-Some w ↦
          second_of_both rows others w.in-Some-Some.row.now w.in-Some-Some.other.now (last ∙ ap option_copied w.in-Some-Some.is-0) (also ∙ ap option_copied w.in-Some-Some.is-1) c.pop.new.self.items c.pop.result pop
          (sym w.compare.ensures ∙ is_less w.compare.result (sym w.eq-is_other.ensures ∙ sym w.is_other-is ∙ c.if-is_other.true))
      | in-Some-None w ↦ (let no : false ≡ true = sym w.is_other-is ∙ c.if-is_other.true in cc)
      | in-None-default w ↦ second_alone_left rows others c.pop.new.self.items c.pop.result (last ∙ ap option_copied w.in-None-default.is-0) pop
    ]

pub returns-else-is_other : goal.returns-else-is_other
returns-else-is_other c =
    let rows = c.args.rows.now.items in
    let others = c.args.others.now.items in
    let last = last_got rows ∙ ap (λ l. slice_get l (length l - 1)) (sym c.deref.ensures.value) ∙ sym c.last.ensures.value in
    let also = last_got others ∙ ap (λ l. slice_get l (length l - 1)) (sym c.deref-2.ensures.value) ∙ sym c.last-2.ensures.value in
    let new = c.pop-else-is_other.new.self in
    let taken = c.pop-else-is_other.result in
    let pop = popped rows new.items taken c.args.rows.now.len new.len c.pop-else-is_other.ensures.items c.args.rows.now.ok.0 c.pop-else-is_other.ensures.cases in
    elim c.match-last.branch [
      | in-Some-Some w ↦
          first_of_both rows others w.in-Some-Some.row.now w.in-Some-Some.other.now (last ∙ ap option_copied w.in-Some-Some.is-0) (also ∙ ap option_copied w.in-Some-Some.is-1) new.items taken pop c.requires
          (λ is. is_not_less w.compare.result (sym w.eq-is_other.ensures ∙ sym w.is_other-is ∙ c.if-is_other.false) (w.compare.ensures ∙ is))
      | in-Some-None w ↦ first_alone_left rows others new.items taken (also ∙ ap option_copied w.in-Some-None.is-1) pop
      | in-None-default w ↦ (let no : true ≡ false = sym w.is_other-is ∙ c.if-is_other.false in cc)
    ]
