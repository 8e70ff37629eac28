use Rattle.std.proofs.Common.{Bool, sym, ap, ◌∙◌}
use Rattle.coco_types.specs.declared.call.Reply.{Reply}
use Rattle.coco_occ.specs.Course.{outcome_by}
use Rattle.coco_occ.specs.Keeping.{reply_in, rests_in, standing_of, writes_in}
use Rattle.coco_occ.specs.Trying.{Trying, Ended, has_ended}
use Rattle.coco_occ.specs.declared.course.Stage.{Stage}
use Rattle.coco_occ.specs.declared.outcome.Outcome.{Outcome}
use Rattle.coco_occ.proofs.Restarts.{ended_at, run_ended}
use Rattle.coco_occ.proofs.attempt.Attempt.outcome.Goals as goal

pub reply-requires : goal.reply-requires
reply-requires c =
    let i = c.self.inside in
    let told = reply_in i.run.standing in
    let e = ended_at i.asked.by i.partitions i.asked.op i.course told i.run.standing i.waits (ap (λ (t : Trying). has_ended t.standing) c.self.view_is ∙ c.requires) in
    run_ended i.run i.script i.asked.by i.partitions i.snapshot i.course told i.asked.op i.waits c.self.invariant e.0 e.1

pub returns : goal.returns
returns c =
    let i = c.self.inside in
    let told = reply_in i.run.standing in
    let ws = writes_in i.run.standing in
    let e = ended_at i.asked.by i.partitions i.asked.op i.course told i.run.standing i.waits (ap (λ (t : Trying). has_ended t.standing) c.self.view_is ∙ c.requires) in (
      ws,
      sym (ap (λ (t : Trying). t.standing) c.self.view_is)
          ∙ ap (λ (b : Bool). standing_of b i.asked.by i.partitions i.asked.op i.course told i.run.standing) e.0
          ∙ ap (λ (a : Stage). rests_in a i.course told ws) e.1
          ∙ ap (λ (o : Outcome). Ended o ws) (sym (c.outcome.ensures ∙ ap (λ (y : Reply). outcome_by i.course.conflict i.course.time y) (sym (ap reply_in c.reply.ensures.1)))),
    )
