use Rattle.std.proofs.Common.{Bool, ap, ◌∙◌}
use Rattle.coco_types.specs.RowKey.{partition_of}
use Rattle.coco_eval.specs.Standing as eval
use Rattle.coco_shard.specs.Table.{key_of}
use Rattle.coco_occ.specs.Course.{is_ended}
use Rattle.coco_occ.specs.Keeping.{reply_in, standing_of}
use Rattle.coco_occ.specs.Trying.{Trying}
use Rattle.coco_occ.proofs.Attempts.{ready_free, ready_goes, attempt_sound, moves}
use Rattle.coco_occ.proofs.Restarts.{rests_told}
use Rattle.coco_occ.proofs.attempt.Attempt.go_on.Goals as goal

pub invariant_of-self : goal.invariant_of-self
invariant_of-self c =
    let i = c.self.inside in
    let d = c.proceed-asks.new in
    let old = reply_in i.run.standing in
    let free = ready_free i.waits i.asked.by i.partitions i.asked.op i.course old i.run.standing (ap (λ (t : Trying). t.standing) c.self.view_is ∙ c.requires.ready) in
    moves i.run d.run i.script i.asked.by i.partitions i.snapshot i.course d.course old (reply_in d.run.standing) i.asked.op i.waits d.op c.proceed-asks.result c.self.invariant
    (ap (λ (e : eval.Evaluation). e.call) c.proceed-asks.ensures.run) (c.proceed-asks.ensures.goes c.self.invariant.asked (ready_goes i.run i.script i.asked.by i.partitions i.snapshot i.course old i.asked.op i.waits c.self.invariant free))

pub returns-clause-asks : goal.returns-clause-asks
returns-clause-asks c is =
    let i = c.self.inside in
    let d = c.proceed-asks.new in
    (partition_of i.partitions (key_of d.op), record { by = i.asked.by; op = d.op }, ap (λ (b : Bool). standing_of b i.asked.by i.partitions d.op d.course (reply_in d.run.standing) d.run.standing) is)

pub returns-clause-ended : goal.returns-clause-ended
returns-clause-ended c is =
    let i = c.self.inside in
    let d = c.proceed-asks.new in
    rests_told i.asked.by i.partitions d.op d.course (reply_in d.run.standing) d.run.standing c.proceed-asks.result is ∙ ap is_ended (c.proceed-asks.ensures.ended is)

pub returns-clause-sound : goal.returns-clause-sound
returns-clause-sound c =
    let i = c.self.inside in
    let d = c.proceed-asks.new in
    let old = reply_in i.run.standing in
    let told = reply_in d.run.standing in
    let free = ready_free i.waits i.asked.by i.partitions i.asked.op i.course old i.run.standing (ap (λ (t : Trying). t.standing) c.self.view_is ∙ c.requires.ready) in
    attempt_sound d.run i.script i.asked.by i.partitions i.snapshot d.course told d.op c.proceed-asks.result
    (moves i.run d.run i.script i.asked.by i.partitions i.snapshot i.course d.course old told i.asked.op i.waits d.op c.proceed-asks.result c.self.invariant
    (ap (λ (e : eval.Evaluation). e.call) c.proceed-asks.ensures.run) (c.proceed-asks.ensures.goes c.self.invariant.asked (ready_goes i.run i.script i.asked.by i.partitions i.snapshot i.course old i.asked.op i.waits c.self.invariant free)))
