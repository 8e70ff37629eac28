use Rattle.std.proofs.Common.{◌≡◌, false, get_or, sym, ap, ◌∙◌}
use Rattle.coco_bytes.specs.Lists.{last_item}
use Rattle.coco_store.specs.Refusals.{may_stand}
use Rattle.coco_recover.proofs.Within.{tag_bad}
use Rattle.coco_recover.proofs.base.first_bad.Goals as goal

pub returns-else-may_stand : goal.returns-else-may_stand
returns-else-may_stand c = λ s before behind fault.
    let stands : may_stand (last_item before) (get_or c.args.body.now 0 0) ≡ false =
    ap (may_stand (last_item before)) (sym c.tag_of.ensures) ∙ sym (c.may_stand.ensures s before behind) ∙ c.if-may_stand.false in
    tag_bad before c.args.body.now c.in-Bad.at stands (rw c.in-Bad.is at fault)
