use Rattle.std.proofs.Common.{refl}
use Rattle.coco_rules.proofs.ReadyingLemmas.{goes_on_to}
use Rattle.coco_rules.proofs.prepared.NodeRules.goes_to.Goals as goal

pub returns-clause-behind : goal.returns-clause-behind
returns-clause-behind c = λ s committed before less was.
    goes_on_to s committed before c.args.prepared.now c.args.self.now _ c.count_below-below.result c.from_place-coming.result.now c.behind_next-cut.result.is_next was less c.count_below-below.ensures.within
    c.count_below-below.ensures.below c.count_below-below.ensures.next c.from_place-coming.ensures c.behind_next-cut.ensures.is c.behind_next-cut.ensures.same c.behind_next-cut.ensures.other c.is_either-is_lacking.ensures refl
