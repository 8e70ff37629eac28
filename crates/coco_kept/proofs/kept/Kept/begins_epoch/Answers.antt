use Rattle.std.proofs.Common.{◌<◌, nat_eq, length, not, ap, subst, ◌∙◌, arith}
use Rattle.coco_kept.specs.Holding.{NeverFall}
use Rattle.coco_kept.specs.Keeping.{Keeping}
use Rattle.coco_kept.proofs.HoldLemmas.{newest_is_in}
use Rattle.coco_kept.proofs.kept.Kept.begins_epoch.Goals as goal

pub returns-else-is_empty : goal.returns-else-is_empty
returns-else-is_empty c =
    let some : 0 < length c.self.inside.dones.items = grind (arith, c.is_empty.ensures, c.if-is_empty.false) in
    ap not (ap (λ n. nat_eq n c.args.epoch) c.newest_epoch.ensures ∙ newest_is_in c.args.epoch c.args.self.now.dones (subst (λ (k : Keeping). 0 < length k.dones) c.self.view_is some)
    (subst (λ (k : Keeping). NeverFall k.dones) c.self.view_is c.self.invariant.rising) c.requires)
