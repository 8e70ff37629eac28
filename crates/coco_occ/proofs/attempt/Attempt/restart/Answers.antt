use Rattle.std.proofs.Common.{sym, ap, ◌∙◌, subst}
use Rattle.coco_eval.specs.Standing as eval
use Rattle.coco_occ.specs.Keeping.{reply_in, IsAttempt}
use Rattle.coco_occ.specs.Trying.{Trying, has_ended}
use Rattle.coco_occ.proofs.Attempts.{starts}
use Rattle.coco_occ.proofs.Restarts.{ended_at, forgets}
use Rattle.coco_occ.proofs.attempt.Attempt.restart.Goals as goal

pub invariant_of-self : goal.invariant_of-self
invariant_of-self c =
    let i = c.self.inside in
    let e = ended_at i.asked.by i.partitions i.asked.op i.course (reply_in i.run.standing) i.run.standing i.waits (ap (λ (t : Trying). has_ended t.standing) c.self.view_is ∙ c.requires.ended) in
    forgets i.run i.script i.asked.by i.partitions i.snapshot i.course c.clear.new.self (reply_in i.run.standing) i.asked.op i.waits c.self.invariant e.0 e.1 c.clear.ensures.others

pub invariant_of-self-in_err-restart : goal.invariant_of-self-in_err-restart
invariant_of-self-in_err-restart c =
    let i = c.self.inside in
    let e = ended_at i.asked.by i.partitions i.asked.op i.course (reply_in i.run.standing) i.run.standing i.waits (ap (λ (t : Trying). has_ended t.standing) c.self.view_is ∙ c.requires.ended) in
    subst (λ (r : eval.Evaluation). IsAttempt r i.script i.asked.by i.partitions i.snapshot c.clear.new.self (reply_in r.standing) i.asked.op i.waits) (sym c.in_err-restart.ensures.err)
    (forgets i.run i.script i.asked.by i.partitions i.snapshot i.course c.clear.new.self (reply_in i.run.standing) i.asked.op i.waits c.self.invariant e.0 e.1 c.clear.ensures.others)

pub invariant_of-self-2 : goal.invariant_of-self-2
invariant_of-self-2 c =
    starts c.args.procs.now c.args.request.now.call _ _ c.args.by c.args.partitions _ _ _ c.in_ok-restart.ensures.ok c.clear-2.ensures c.requires.partitions c.restart-2.ensures
