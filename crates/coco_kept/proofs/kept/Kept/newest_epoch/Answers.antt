use Rattle.std.proofs.Common.{◌≡◌, ◌-◌, length, refl, ap, sym, ◌∙◌, arith}
use Rattle.std.proofs.lemmas.Option.{slice_get_read}
use Rattle.coco_kept.specs.Keeping.{newest_epoch}
use Rattle.coco_kept.proofs.HoldLemmas.{last_newest}
use Rattle.coco_kept.proofs.kept.Kept.newest_epoch.Goals as goal

pub returns-in-Some : goal.returns-in-Some
returns-in-Some c =
    let long : c.self.inside.dones.len ≡ length c.self.inside.dones.items = omega arith in
    let at = slice_get_read c.self.inside.dones.items (length c.self.inside.dones.items) (c.self.inside.dones.len - 1) c.in-Some.last.now refl (omega (arith, long, c.in-Some.ensures.item.3.0)) c.in-Some.ensures.item.1 in
    sym (last_newest c.self.inside.dones.items c.in-Some.last.now (c.self.inside.dones.len - 1) c.self.invariant.rising (omega (arith, long, c.in-Some.ensures.item.3.0)) at)
    ∙ ap (λ k. newest_epoch k.dones) c.self.view_is
