use Rattle.std.proofs.Common.{refl}
use Rattle.coco_recover.specs.Layouts.{setting_of}
use Rattle.coco_recover.proofs.Committing.{are_committed}
use Rattle.coco_recover.proofs.commits.CommitReading.into_committed.Goals as goal

pub returns : goal.returns
returns c =
    let r = c.self.inside in
    rw (← c.self.view_is, c.if-self.false)
    (record { committed = are_committed (setting_of r.last.now) r.rules r.committed (c.self.invariant c.if-self.false); basis = refl; commits = refl; err = tt })
