use Rattle.std.proofs.Common.{Bool, sym, ap, ◌∙◌, subst}
use Rattle.coco_types.specs.declared.call.Reply.{Reply}
use Rattle.coco_occ.specs.Course.{outcome_by}
use Rattle.coco_occ.specs.Keeping.{reply_in, rests_in, standing_of, writes_in}
use Rattle.coco_occ.specs.Trying.{Standing, Trying, Ended, IsMoveOf, has_ended}
use Rattle.coco_occ.specs.declared.course.Stage.{Stage}
use Rattle.coco_occ.specs.Interleaving.{end_move}
use Rattle.coco_occ.proofs.OneTurn.{end_told}
use Rattle.coco_occ.proofs.Restarts.{ended_at, run_ended}
use Rattle.coco_occ.proofs.attempt.Attempt.last_move.Goals as goal

pub reply-requires : goal.reply-requires
reply-requires c =
    let i = c.self.inside in
    let told = reply_in i.run.standing in
    let e = ended_at i.asked.by i.partitions i.asked.op i.course told i.run.standing i.waits (ap (λ (t : Trying). has_ended t.standing) c.self.view_is ∙ c.requires) in
    run_ended i.run i.script i.asked.by i.partitions i.snapshot i.course told i.asked.op i.waits c.self.invariant e.0 e.1

pub returns : goal.returns
returns c =
    let i = c.self.inside in
    let told = reply_in i.run.standing in
    let ws = writes_in i.run.standing in
    let e = ended_at i.asked.by i.partitions i.asked.op i.course told i.run.standing i.waits (ap (λ (t : Trying). has_ended t.standing) c.self.view_is ∙ c.requires) in
    subst (λ (s : Standing). IsMoveOf s c.last_move.result) (ap (λ (t : Trying). t.standing) c.self.view_is)
    (subst (λ (b : Bool). IsMoveOf (standing_of b i.asked.by i.partitions i.asked.op i.course told i.run.standing) c.last_move.result) (sym e.0)
    (subst (λ (a : Stage). IsMoveOf (rests_in a i.course told ws) c.last_move.result) (sym e.1)
    (subst (IsMoveOf (Ended (outcome_by i.course.conflict i.course.time told) ws))
    (sym (c.last_move.ensures ∙ ap (λ (y : Reply). end_move (outcome_by i.course.conflict i.course.time y)) (sym (ap reply_in c.reply.ensures.1))))
    (end_told (outcome_by i.course.conflict i.course.time told) ws))))
