use Rattle.std.proofs.Common.{ap, sym, subst, ◌∙◌}
use Rattle.coco_batches.specs.Asking.{AreNew, CanRun, IsNewTo, MayCommit}
use Rattle.coco_batches.specs.declared.batch.Batch.{Batch}
use Rattle.coco_batches.proofs.JoinLemmas.{all_more, joined}
use Rattle.coco_batches.proofs.batch.Batch.take.Goals as goal
use Rattle.coco_batches.proofs.batch.Batch.take.Goals.{in-Refused, in-Same+in_ok-answer-in-Same, in-New+in_ok-push-in-New}

pub returns-clause-new : goal.returns-clause-new
returns-clause-new c =
    let procs = c.args.procs.now in
    let held = c.args.kept.now in elim c.match-branch-2.branch [
      | in-Refused w ↦ subst (MayCommit procs held) (sym (ap (λ (b : Batch). b.fresh) w.self-is)) c.requires.new
      | in-Same+in_ok-answer-in-Same w ↦ subst (MayCommit procs held) (sym (ap (λ (b : Batch). b.fresh) w.self-is)) c.requires.new
      | in-New+in_ok-push-in-New w ↦ subst (MayCommit procs held) (sym (ap (λ (b : Batch). b.fresh) w.self-is ∙ w.in_ok-push-in-New.ensures.ok)) (record {
        fit = all_more _ c.args.self.now.fresh w.in-New.request c.requires.new.fit (subst (CanRun procs) w.in-New.is c.in_ok-error.ensures.runs);
        new = joined held c.args.self.now.fresh w.in-New.request c.requires.new.new (subst (IsNewTo held c.args.self.now.fresh) w.in-New.is c.in_ok-error.ensures.new);
      })
    ]
