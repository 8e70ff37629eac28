use Rattle.std.proofs.Common.{refl}
use Rattle.coco_rules.specs.Readying.{AreAmong}
use Rattle.coco_store.specs.Rules.{prepared_epochs}
use Rattle.coco_recover.specs.Nodes.{setting_with}
use Rattle.coco_recover.proofs.Loading.{none_prepared, not_told}
use Rattle.coco_recover.proofs.nodes.NodeReadingRules.lacks.Goals as goal

pub returns-then-self : goal.returns-then-self
returns-then-self c =
    let r = c.self.inside in
    rw (← c.self.view_is, c.if-self.true, c.is_empty.ensures) (none_prepared r.epochs.now _ refl)

pub returns-else-self : goal.returns-else-self
returns-else-self c =
    let r = c.self.inside in
    let taken = c.self.invariant.1 c.if-self.false in
    rw (← c.self.view_is, c.if-self.false)
    (not_told c.have_prepared.result (AreAmong (prepared_epochs r.taken.items) r.epochs.now) (c.have_prepared.ensures (setting_with r.layout.now r.procs.now) r.epochs.now r.taken.items taken.behind))
