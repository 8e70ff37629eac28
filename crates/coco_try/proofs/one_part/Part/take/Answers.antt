use Rattle.std.proofs.Common.{rules, ap, sym, subst, ◌∙◌}
use Rattle.coco_ast.specs.Fitting.{Fits}
use Rattle.coco_batches.specs.Asking.{AreNew, CanRun, IsNewTo}
use Rattle.coco_batches.proofs.JoinLemmas.{all_more, joined}
use Rattle.coco_try.specs.Work.{AllFit}
use Rattle.coco_try.specs.declared.one_part.Part.{Part}
use Rattle.coco_try.proofs.one_part.Part.take.Goals as goal
use Rattle.coco_try.proofs.one_part.Part.take.Goals.{in-Same, in-New+in_ok-push-in-New}

pub returns-clause-new : goal.returns-clause-new
returns-clause-new c =
    let held = c.args.kept.now in elim c.match-class_of_request.branch [
      | in-Same w ↦ subst (AreNew held) (sym (ap (λ (p : Part). p.fresh) w.self-is)) c.requires.new
      | in-New+in_ok-push-in-New w ↦ subst (AreNew held) (sym (ap (λ (p : Part). p.fresh) w.self-is ∙ w.in_ok-push-in-New.ensures.ok))
          (joined held c.args.self.now.fresh w.in-New.request c.requires.new (subst (IsNewTo held c.args.self.now.fresh) w.in-New.is c.class_of_request.ensures.new))
    ]

pub returns-clause-fit : goal.returns-clause-fit
returns-clause-fit c procs fit fits =
    let runs : CanRun procs c.class_of_request.result = c.class_of_request.ensures.runs procs (search rules) in elim c.match-class_of_request.branch [
      | in-Same w ↦ subst (AllFit procs) (sym (ap (λ (p : Part). p.fresh) w.self-is)) fit
      | in-New+in_ok-push-in-New w ↦ subst (AllFit procs) (sym (ap (λ (p : Part). p.fresh) w.self-is ∙ w.in_ok-push-in-New.ensures.ok))
          (all_more _ c.args.self.now.fresh w.in-New.request fit (subst (CanRun procs) w.in-New.is runs))
    ]
