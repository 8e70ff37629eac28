use Rattle.coco_eval.proofs.StepLemmas.{is_planned}
use Rattle.coco_eval.proofs.advance.advance.Goals as goal

pub unreachable-requires : goal.unreachable-requires
unreachable-requires c = is_planned c.requires.0 _ c.requires.1 c.in_default.ensures.plan
