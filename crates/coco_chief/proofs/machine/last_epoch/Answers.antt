use Rattle.std.proofs.Common.{◌-◌, length, sym, ap, ◌∙◌, arith}
use Rattle.std.proofs.lemmas.Bool.{ltb-true}
use Rattle.coco_chief.specs.declared.ranges.Range.{Range}
use Rattle.coco_chief.proofs.RangeLemmas.{end_of-last}
use Rattle.coco_chief.proofs.machine.last_epoch.Goals as goal

pub returns-in-Some : goal.returns-in-Some
returns-in-Some c =
    ap (λ (r : Range). r.last) c.in-Some.ensures.item.1
    ∙ sym (end_of-last c.args.ranges.now (length c.args.ranges.now - 1) c.in-Some.range.now (omega (arith, ltb-true _ _ (sym c.in-Some.ensures.item.0))))
