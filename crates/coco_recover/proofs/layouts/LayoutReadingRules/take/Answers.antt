use Rattle.coco_recover.specs.Layouts.{layout_rules}
use Rattle.coco_recover.proofs.Judged.{broken, unread}
use Rattle.coco_recover.proofs.LaidOut.{laid_out}
use Rattle.coco_recover.proofs.Places.{layout_keeps, layout_place}
use Rattle.coco_recover.proofs.Within.{layout_fault}
use Rattle.coco_recover.proofs.layouts.LayoutReadingRules.take.Goals as goal

pub returns-in-Err-clause-takes : goal.returns-in-Err-clause-takes
returns-in-Err-clause-takes c =
    rw c.refused.ensures
    (unread layout_rules c.args.self.now c.args.body.now c.args.self.now c.in-Err.fault c.in-Err.ensures.read (layout_fault c.args.body.now))

pub returns-else-behind-ge-FILES_END-clause-takes : goal.returns-else-behind-ge-FILES_END-clause-takes
returns-else-behind-ge-FILES_END-clause-takes c =
    let good = rw c.in-Ok-2.is at c.in_ok-procs.ensures in
    record {
      entry = c.in-Ok.entry;
      is = c.in-Ok.ensures.found.0;
      bytes = c.in-Ok.ensures.found.1;
      keeps = layout_keeps c.in-Ok.entry c.in-Ok-2.procs good.0 good.1;
      last = cc (c.add.ensures, c.from_ref.ensures.value, c.self.view_is);
    }

pub returns-in-Err-2-clause-takes : goal.returns-in-Err-2-clause-takes
returns-in-Err-2-clause-takes c =
    let first = rw c.in-Err-2.is at c.in_ok-procs.ensures in
    broken layout_rules c.args.self.now c.args.body.now c.args.self.now c.in-Ok.entry c.in-Err-2.at c.in-Ok.ensures.found.0 c.in-Ok.ensures.found.1 first
    (layout_place c.in-Ok.entry c.in-Err-2.at c.in-Ok.ensures.found.0 first.refused)

pub invariant_of-self : goal.invariant_of-self
invariant_of-self c =
    let good = rw c.in-Ok-2.is at c.in_ok-procs.ensures in
    laid_out c.self.inside.taken.items c.add.new.self.items c.self.inside.last c.self.inside.gate c.in-Ok.entry c.in-Ok-2.procs c.args.body.now
    c.self.invariant (cc (c.add.ensures, c.from_ref.ensures.value)) c.in-Ok.ensures.found.1 c.in-Ok.ensures.found.0 good.0 good.1 c.if-behind-ge-FILES_END.false
