use Rattle.std.proofs.Common.{ℕ, false, ◌++◌, ◌∷◌, [], None, sym, ap, ◌∙◌, subst}
use Rattle.coco_types.specs.RowKey.{partition_of}
use Rattle.coco_shard.specs.declared.ops.Ask.{Ask}
use Rattle.coco_occ.specs.Course.{exchange}
use Rattle.coco_occ.specs.Keeping.{reply_in}
use Rattle.coco_occ.specs.Exchange.{MayAnswer}
use Rattle.coco_occ.specs.declared.script.Step.{Step}
use Rattle.coco_occ.specs.Steps.{AreBy}
use Rattle.coco_occ.specs.Trying.{Trying}
use Rattle.coco_occ.proofs.Attempts.{waits_for, waiting_goes, steps_by, took, took_one, attempt_sound}
use Rattle.coco_occ.proofs.ProgressLemmas.{goes_told}
use Rattle.coco_occ.proofs.attempt.Attempt.take_lent.Goals as goal

pub push-requires : goal.push-requires
push-requires c = subst (AreBy c.self.inside.asked.by) (sym c.self.invariant.steps) (steps_by c.self.inside.asked.by c.self.inside.partitions c.self.invariant.asked)

pub accept-requires : goal.accept-requires
accept-requires c =
    let i = c.self.inside in
    let q = c.requires in
    let w = waits_for i.waits i.asked.by i.partitions i.asked.op i.course (reply_in i.run.standing) i.run.standing q.0 q.1 (ap (λ (t : Trying). t.standing) c.self.view_is ∙ q.2) in
    (i.snapshot, c.self.invariant.asked, (reply_in i.run.standing), i.asked.by, waiting_goes i.run i.script i.asked.by i.partitions i.snapshot i.course (reply_in i.run.standing) i.asked.op i.waits c.self.invariant w.0, subst (λ (a : Ask). MayAnswer a c.args.answer.now) (sym w.2) q.3)

pub invariant_of-self-2 : goal.invariant_of-self-2
invariant_of-self-2 c =
    let i = c.self.inside in
    let q = c.requires in
    let w = waits_for i.waits i.asked.by i.partitions i.asked.op i.course (reply_in i.run.standing) i.run.standing q.0 q.1 (ap (λ (t : Trying). t.standing) c.self.view_is ∙ q.2) in
    let may = subst (λ (a : Ask). MayAnswer a c.args.answer.now) (sym w.2) q.3 in
    let step : ℕ → Step = λ n. record { shard = n; ask = record { by = i.asked.by; op = i.asked.op }; answer = c.args.answer.now } in
    took i.run c.accept.new.run i.script c.push.new.self i.asked.by i.partitions i.snapshot i.course c.accept.new.course (reply_in i.run.standing) (reply_in c.accept.new.run.standing) i.asked.op c.args.answer.now i.waits c.self.invariant
    (c.in_ok-push.ensures.ok ∙ ap (λ (n : ℕ). i.script ++ step n ∷ []) (c.shard_of-shard.ensures ∙ ap (partition_of i.partitions) c.key.ensures))
    may c.accept.ensures.call (goes_told i.snapshot c.accept.new.run (c.self.invariant.asked ++ exchange i.asked.op c.args.answer.now ∷ []) c.accept.new.course (reply_in i.run.standing) None
    (c.accept.ensures.goes i.snapshot c.self.invariant.asked (reply_in i.run.standing) i.asked.by (waiting_goes i.run i.script i.asked.by i.partitions i.snapshot i.course (reply_in i.run.standing) i.asked.op i.waits c.self.invariant w.0) may))

pub returns-clause-ok : goal.returns-clause-ok
returns-clause-ok c shard ask standing =
    let i = c.self.inside in
    let step : ℕ → Step = λ n. record { shard = n; ask = record { by = i.asked.by; op = i.asked.op }; answer = c.args.answer.now } in
    took_one i.run c.accept.new.run i.script c.push.new.self i.asked.by i.partitions i.snapshot i.course c.accept.new.course (reply_in i.run.standing) (reply_in c.accept.new.run.standing) i.asked.op c.args.answer.now i.waits _ c.self.invariant c.self.view_is
    (c.in_ok-push.ensures.ok ∙ ap (λ (n : ℕ). i.script ++ step n ∷ []) (c.shard_of-shard.ensures ∙ ap (partition_of i.partitions) c.key.ensures))
    c.accept.ensures.procs c.accept.ensures.call c.accept.ensures.stage shard ask standing

pub returns-clause-sound : goal.returns-clause-sound
returns-clause-sound c =
    let i = c.self.inside in
    let q = c.requires in
    let w = waits_for i.waits i.asked.by i.partitions i.asked.op i.course (reply_in i.run.standing) i.run.standing q.0 q.1 (ap (λ (t : Trying). t.standing) c.self.view_is ∙ q.2) in
    let may = subst (λ (a : Ask). MayAnswer a c.args.answer.now) (sym w.2) q.3 in
    let step : ℕ → Step = λ n. record { shard = n; ask = record { by = i.asked.by; op = i.asked.op }; answer = c.args.answer.now } in
    attempt_sound c.accept.new.run c.push.new.self i.asked.by i.partitions i.snapshot c.accept.new.course (reply_in c.accept.new.run.standing) i.asked.op false
    (took i.run c.accept.new.run i.script c.push.new.self i.asked.by i.partitions i.snapshot i.course c.accept.new.course (reply_in i.run.standing) (reply_in c.accept.new.run.standing) i.asked.op c.args.answer.now i.waits c.self.invariant
    (c.in_ok-push.ensures.ok ∙ ap (λ (n : ℕ). i.script ++ step n ∷ []) (c.shard_of-shard.ensures ∙ ap (partition_of i.partitions) c.key.ensures))
    may c.accept.ensures.call (goes_told i.snapshot c.accept.new.run (c.self.invariant.asked ++ exchange i.asked.op c.args.answer.now ∷ []) c.accept.new.course (reply_in i.run.standing) None
    (c.accept.ensures.goes i.snapshot c.self.invariant.asked (reply_in i.run.standing) i.asked.by (waiting_goes i.run i.script i.asked.by i.partitions i.snapshot i.course (reply_in i.run.standing) i.asked.op i.waits c.self.invariant w.0) may)))
