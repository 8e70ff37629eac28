use Rattle.std.proofs.Common.{ℕ, sym, ap, ◌∙◌}
use Rattle.coco_types.specs.RowKey.{partition_of}
use Rattle.coco_occ.specs.Keeping.{reply_in}
use Rattle.coco_occ.specs.Trying.{Trying, Waits}
use Rattle.coco_occ.proofs.Attempts.{waits_for}
use Rattle.coco_occ.proofs.attempt.Attempt.shard.Goals as goal

pub returns : goal.returns
returns c =
    let i = c.self.inside in
    let q = c.requires in
    let w = waits_for i.waits i.asked.by i.partitions i.asked.op i.course (reply_in i.run.standing) i.run.standing q.0 q.1 (ap (λ (t : Trying). t.standing) c.self.view_is ∙ q.2) in
    (q.1, q.2 ∙ ap (λ (n : ℕ). Waits n q.1) (sym (c.shard_of.ensures ∙ ap (partition_of i.partitions) c.key.ensures ∙ w.1)))
