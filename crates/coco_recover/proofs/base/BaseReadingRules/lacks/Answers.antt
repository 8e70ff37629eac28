use Rattle.coco_store.specs.Rules.{IsWhole}
use Rattle.coco_recover.specs.Bases.{entries_of}
use Rattle.coco_recover.specs.Layouts.{setting_of}
use Rattle.coco_recover.proofs.Loading.{not_told}
use Rattle.coco_recover.proofs.base.BaseReadingRules.lacks.Goals as goal

pub returns-else-self : goal.returns-else-self
returns-else-self c =
    let r = c.self.inside in
    let entries = entries_of r.gathered.entries.items in
    rw (← c.self.view_is, c.if-self.false) (not_told c.is_whole.result (IsWhole entries) (c.is_whole.ensures (setting_of r.last.now) entries (c.self.invariant c.if-self.false).behind))
