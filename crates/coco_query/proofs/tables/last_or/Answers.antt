use Rattle.std.proofs.Common.{ℕ, Option, ap, ◌∙◌}
use Rattle.std.specs.Option.{unwrap_or}
use Rattle.coco_query.proofs.ReplayLemmas.{last_is}
use Rattle.coco_query.proofs.tables.last_or.Goals as goal

pub returns-in-Some : goal.returns-in-Some
returns-in-Some c = ap (λ (o : Option ℕ). unwrap_or o c.args.base) c.in-Some.ensures.value ∙ last_is c.args.base c.args.epochs.now
