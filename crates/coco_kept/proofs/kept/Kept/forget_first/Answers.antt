use Rattle.std.proofs.Common.{◌≡◌, ◌-◌, ◌∷◌, ℕ, Bool, cond, ap, sym, subst, ◌∙◌, arith}
use Rattle.coco_kept.specs.Holding.{NeverFall, epoch_count, first_is}
use Rattle.coco_kept.proofs.HoldLemmas.{held-pop, epoch_count-pop}
use Rattle.coco_kept.proofs.kept.Kept.forget_first.Goals as goal

-- 0 for yes
abbrev unless : Bool → ℕ
unless b = cond b 0 1

pub overflow_sub-self : goal.overflow_sub-self
overflow_sub-self c =
    let rising : NeverFall (c.in-Some.done ∷ c.pop_front.new.self.items) = subst NeverFall c.in-Some.ensures.items c.self.invariant.rising in
    let all : c.self.inside.epochs ≡ epoch_count (c.in-Some.done ∷ c.pop_front.new.self.items) = c.self.invariant.counted ∙ ap epoch_count c.in-Some.ensures.items in
    let one : unless (first_is c.in-Some.done.epoch c.pop_front.new.self.items) ≡ 1 = ap unless (sym c.begins_with.ensures ∙ c.if-not-begins_with.true) in
    omega (arith, all, epoch_count-pop c.in-Some.done c.pop_front.new.self.items rising, one)

pub invariant_of-self-then-not-begins_with : goal.invariant_of-self-then-not-begins_with
invariant_of-self-then-not-begins_with c =
    let rising : NeverFall (c.in-Some.done ∷ c.pop_front.new.self.items) = subst NeverFall c.in-Some.ensures.items c.self.invariant.rising in
    let all : c.self.inside.epochs ≡ epoch_count (c.in-Some.done ∷ c.pop_front.new.self.items) = c.self.invariant.counted ∙ ap epoch_count c.in-Some.ensures.items in
    let one : unless (first_is c.in-Some.done.epoch c.pop_front.new.self.items) ≡ 1 = ap unless (sym c.begins_with.ensures ∙ c.if-not-begins_with.true) in
    held-pop c.in-Some.done c.pop_front.new.self.items c.self.inside.dones.items _ _ c.self.inside.first c.self.inside.epochs (c.self.inside.epochs - 1) c.self.inside.keep c.self.invariant c.in-Some.ensures.items
    c.remove-number.ensures.updates.0 (omega (arith, all, epoch_count-pop c.in-Some.done c.pop_front.new.self.items rising, one))

pub invariant_of-self-else-not-begins_with : goal.invariant_of-self-else-not-begins_with
invariant_of-self-else-not-begins_with c =
    let none : unless (first_is c.in-Some.done.epoch c.pop_front.new.self.items) ≡ 0 = ap unless (sym c.begins_with.ensures ∙ c.if-not-begins_with.false) in
    held-pop c.in-Some.done c.pop_front.new.self.items c.self.inside.dones.items _ _ c.self.inside.first c.self.inside.epochs c.self.inside.epochs c.self.inside.keep c.self.invariant c.in-Some.ensures.items
    c.remove-number.ensures.updates.0 (omega (arith, none))
