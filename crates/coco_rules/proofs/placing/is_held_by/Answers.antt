use Rattle.std.proofs.lemmas.Bool.{leb-true, le-leb}
use Rattle.coco_rules.proofs.PlacingLemmas.{held_is, is_held}
use Rattle.coco_rules.proofs.placing.is_held_by.Goals as goal

pub returns : goal.returns
returns c = (λ e. held_is c.args.layout.now c.args.partition c.args.node c.requires (leb-true _ _ e), λ held. le-leb _ _ (is_held c.args.layout.now c.args.partition c.args.node c.requires held))
