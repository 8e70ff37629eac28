use Rattle.std.proofs.Common.{sym, ap, ◌∙◌}
use Rattle.coco_shard.specs.declared.ops.Ask.{Ask}
use Rattle.coco_occ.specs.Keeping.{reply_in}
use Rattle.coco_occ.specs.Trying.{Trying, Waits}
use Rattle.coco_occ.proofs.Attempts.{waits_for}
use Rattle.coco_occ.proofs.attempt.Attempt.ask.Goals as goal

pub returns : goal.returns
returns c =
    let i = c.self.inside in
    let q = c.requires in
    let w = waits_for i.waits i.asked.by i.partitions i.asked.op i.course (reply_in i.run.standing) i.run.standing q.0 q.1 (ap (λ (t : Trying). t.standing) c.self.view_is ∙ q.2) in
    (q.0, q.2 ∙ ap (λ (a : Ask). Waits q.0 a) (sym w.2))
