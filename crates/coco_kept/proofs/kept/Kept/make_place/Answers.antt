use Rattle.std.proofs.Common.{◌≡◌, ap, sym, subst, ◌∙◌, arith}
use Rattle.coco_kept.specs.Holding.{NeverFall, epoch_count, epochs_of}
use Rattle.coco_kept.specs.Keeping.{Keeping}
use Rattle.coco_kept.proofs.Counts.{fresh}
use Rattle.coco_kept.proofs.HoldLemmas.{one, fresh_by}
use Rattle.coco_kept.proofs.PlaceLemmas.{place_all, place_few, place_full, fresh_few}
use Rattle.coco_kept.proofs.kept.Kept.make_place.Goals as goal

pub returns-in_default : goal.returns-in_default
returns-in_default c = place_all c.args.epoch c.args.self.now c.requires (ap (λ k. k.keep) (sym c.self.view_is) ∙ c.in_default.is)

pub returns-then-self-keep : goal.returns-then-self-keep
returns-then-self-keep c =
    let counted : epoch_count c.args.self.now.dones ≡ c.self.inside.epochs = ap (λ k. epoch_count k.dones) (sym c.self.view_is) ∙ sym c.self.invariant.counted in
    place_few c.args.epoch c.in-Some.keep c.args.self.now c.requires (ap (λ k. k.keep) (sym c.self.view_is) ∙ c.in-Some.is) (c.self.invariant.within c.in-Some.keep c.in-Some.is).0
    (omega (arith, counted, fresh_few c.args.epoch (epochs_of c.args.self.now.dones)))

pub returns-else-begins_epoch : goal.returns-else-begins_epoch
returns-else-begins_epoch c =
    let counted : epoch_count c.args.self.now.dones ≡ c.self.inside.epochs = ap (λ k. epoch_count k.dones) (sym c.self.view_is) ∙ sym c.self.invariant.counted in
    let old : fresh c.args.epoch (epochs_of c.args.self.now.dones) ≡ 0 = fresh_by c.args.epoch c.args.self.now.dones c.begins_epoch.result c.begins_epoch.ensures ∙ ap one c.if-begins_epoch.false in
    place_few c.args.epoch c.in-Some.keep c.args.self.now c.requires (ap (λ k. k.keep) (sym c.self.view_is) ∙ c.in-Some.is) (c.self.invariant.within c.in-Some.keep c.in-Some.is).0
    (omega (arith, counted, old, (c.self.invariant.within c.in-Some.keep c.in-Some.is).1))

pub returns-then-begins_epoch : goal.returns-then-begins_epoch
returns-then-begins_epoch c =
    let counted : epoch_count c.args.self.now.dones ≡ c.self.inside.epochs = ap (λ k. epoch_count k.dones) (sym c.self.view_is) ∙ sym c.self.invariant.counted in
    let new : fresh c.args.epoch (epochs_of c.args.self.now.dones) ≡ 1 = fresh_by c.args.epoch c.args.self.now.dones c.begins_epoch.result c.begins_epoch.ensures ∙ ap one c.if-begins_epoch.true in
    place_full c.args.epoch c.in-Some.keep c.args.self.now c.forget_least.new.self c.requires (subst (λ (k : Keeping). NeverFall k.dones) c.self.view_is c.self.invariant.rising)
    (ap (λ k. k.keep) (sym c.self.view_is) ∙ c.in-Some.is) (c.self.invariant.within c.in-Some.keep c.in-Some.is).0
    (let full : epoch_count c.args.self.now.dones ≡ c.in-Some.keep = omega (arith, counted, (c.self.invariant.within c.in-Some.keep c.in-Some.is).1) in full) new
    c.forget_least.ensures.dones c.forget_least.ensures.floor c.forget_least.ensures.keep c.forget_least.ensures.room
