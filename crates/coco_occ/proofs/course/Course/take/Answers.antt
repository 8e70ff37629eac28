use Rattle.std.proofs.Common.{◌++◌, ◌∷◌, [], inl, None, Some, sym, ap, subst}
use Rattle.coco_shard.specs.declared.ops.Op.{Op}
use Rattle.coco_occ.specs.Exchange.{MayAnswer}
use Rattle.coco_occ.specs.Course.{exchange, Stands}
use Rattle.coco_occ.specs.declared.course.Course.{Course}
use Rattle.coco_occ.proofs.CourseLemmas.{lock_stage, extension_stage, end_kept, passed_on}
use Rattle.coco_occ.proofs.course.Course.take.Goals as goal

pub returns-in-Lock-clause-stands : goal.returns-in-Lock-clause-stands
returns-in-Lock-clause-stands c r m by before s may =
    let h = lock_stage c.args.self.now.stage r m before c.args.self.now c.in-Lock.key (subst (λ (o : Op). Stands r m before c.args.self.now (Some o)) c.in-Lock.is s) in
    subst (λ (o : Op). Stands r m (before ++ exchange o c.args.answer.now ∷ []) c.take_lock.new.self None) (sym c.in-Lock.is)
    (c.take_lock.ensures.stands r m by before h.1 h.0 (subst (λ (o : Op). MayAnswer (record { by = by; op = o }) c.args.answer.now) c.in-Lock.is may))

pub returns-in-Extend-clause-stands : goal.returns-in-Extend-clause-stands
returns-in-Extend-clause-stands c r m by before s may =
    let h = extension_stage c.args.self.now.stage r m before c.args.self.now c.in-Extend.key c.in-Extend.wts c.in-Extend.time (subst (λ (o : Op). Stands r m before c.args.self.now (Some o)) c.in-Extend.is s) in
    subst (λ (o : Op). Stands r m (before ++ exchange o c.args.answer.now ∷ []) c.take_extension.new.self None) (sym c.in-Extend.is)
    (c.take_extension.ensures.stands c.in-Extend.time r m by before h.1 h.0 (subst (λ (o : Op). MayAnswer (record { by = by; op = o }) c.args.answer.now) c.in-Extend.is may))

pub returns-in_default : goal.returns-in_default
returns-in_default c = record {
  stage = inl (ap (λ (d : Course). d.stage) c.pass.ensures);
  stands = λ r m by before s may.
      let h = end_kept c.args.self.now.stage r m before c.args.self.now c.args.asked.now c.args.answer.now c.in_default.not-Lock c.in_default.not-Extend s in
      subst (λ (d : Course). Stands r m (before ++ exchange c.args.asked.now c.args.answer.now ∷ []) d None) (sym (passed_on c.args.self.now c.pass.new.self h.0 c.pass.ensures)) h.1;
}
