use Rattle.coco_rules.proofs.BasingLemmas.{whole_so}
use Rattle.coco_rules.proofs.base.BaseRules.is_whole.Goals as goal

pub returns : goal.returns
returns c = λ s before behind.
    whole_so before c.args.self.now c.is_none_left-dones.result c.is_none_left-rows.result c.is_both.result behind.told c.is_none_left-dones.ensures c.is_none_left-rows.ensures c.is_both.ensures
