use Rattle.std.proofs.Common.{◌≡◌, ◌≤◌, Some, arith, refl, slice_get, ap, sym, subst, ◌∙◌, false}
use Rattle.std.specs.List.{AllByRecursion}
use Rattle.coco_ast.specs.History.{ids_of, greatest_with}
use Rattle.coco_kept.specs.Holding.{NeverFall, first_is}
use Rattle.coco_kept.specs.Keeping.{Keeping}
use Rattle.coco_kept.proofs.Numbers.{item_copied}
use Rattle.coco_kept.proofs.PlaceLemmas.{all_stay, none_goes, behind_first, least_first, first_least}
use Rattle.coco_kept.proofs.kept.Kept.forget_least.Goals as goal

pub loop-self-init : goal.loop-self-init
loop-self-init c =
    let first : slice_get c.self.inside.dones.items 0 ≡ Some c.in-Some.first.now = sym (item_copied c.self.inside.dones.items 0 (Some c.in-Some.first) c.in-Some.ensures.item) in
    record {
      from = subst (λ (k : Keeping). AllByRecursion (λ d. c.in-Some.first.now.epoch ≤ d.epoch) k.dones) c.self.view_is (first_least c.in-Some.first.now c.self.inside.dones.items first c.self.invariant.rising);
      stay = refl;
      floor = refl;
      keep = refl;
      room = omega arith;
    }

pub returns-clause-dones : goal.returns-clause-dones
returns-clause-dones c =
    let first : slice_get c.self.inside.dones.items 0 ≡ Some c.in-Some.first.now = sym (item_copied c.self.inside.dones.items 0 (Some c.in-Some.first) c.in-Some.ensures.item) in
    let rising : NeverFall c.loop-self.self.dones = subst (λ (k : Keeping). NeverFall k.dones) c.self-in-loop-self.view_is c.self-in-loop-self.invariant.rising in
    let other : first_is c.in-Some.first.now.epoch c.loop-self.self.dones ≡ false = ap (λ k. first_is c.in-Some.first.now.epoch k.dones) (sym c.self-in-loop-self.view_is) ∙ sym c.begins_with.ensures ∙ c.loop-self-test.false in
    sym (all_stay c.in-Some.first.now.epoch c.loop-self.self.dones other c.loop-self.invariant.from rising) ∙ c.loop-self.invariant.stay
    ∙ sym (behind_first c.in-Some.first.now c.args.self.now.dones (ap (λ k. slice_get k.dones 0) (sym c.self.view_is) ∙ first))

pub returns-clause-floor : goal.returns-clause-floor
returns-clause-floor c =
    let first : slice_get c.self.inside.dones.items 0 ≡ Some c.in-Some.first.now = sym (item_copied c.self.inside.dones.items 0 (Some c.in-Some.first) c.in-Some.ensures.item) in
    let rising : NeverFall c.loop-self.self.dones = subst (λ (k : Keeping). NeverFall k.dones) c.self-in-loop-self.view_is c.self-in-loop-self.invariant.rising in
    let other : first_is c.in-Some.first.now.epoch c.loop-self.self.dones ≡ false = ap (λ k. first_is c.in-Some.first.now.epoch k.dones) (sym c.self-in-loop-self.view_is) ∙ sym c.begins_with.ensures ∙ c.loop-self-test.false in
    ap (λ l. greatest_with c.loop-self.self.floor (ids_of l)) (sym (none_goes c.in-Some.first.now.epoch c.loop-self.self.dones other c.loop-self.invariant.from rising)) ∙ c.loop-self.invariant.floor
    ∙ ap (λ l. greatest_with c.args.self.now.floor (ids_of l)) (sym (least_first c.in-Some.first.now c.args.self.now.dones (ap (λ k. slice_get k.dones 0) (sym c.self.view_is) ∙ first)))
