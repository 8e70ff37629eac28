use Rattle.std.proofs.Common.{refl}
use Rattle.coco_rules.proofs.BasingLemmas.{history_behind}
use Rattle.coco_rules.proofs.base.BaseRules.into_history.Goals as goal

pub returns : goal.returns
returns c = λ s base behind. history_behind s base c.args.self _ behind refl refl refl
