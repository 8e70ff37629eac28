use Rattle.std.proofs.Common.{inl, inr, refl}
use Rattle.coco_occ.specs.declared.outcome.Why.TheVariants as why
use Rattle.coco_occ.proofs.CourseLemmas.{extension_taken, extension_refused}
use Rattle.coco_shard.specs.declared.ops.Op.TheVariants.{Extend}
use Rattle.coco_occ.proofs.course.Course.take_extension.Goals as goal

pub returns-in-Extended-clause-stands : goal.returns-in-Extended-clause-stands
returns-in-Extended-clause-stands c time r m by before s at may =
    extension_taken r m before c.args.self.now c.pass.new.self (Extend c.args.key c.args.wts time) c.args.answer.now s at c.in-Extended.is c.pass.ensures

pub returns-in-Marked-clause-stands : goal.returns-in-Marked-clause-stands
returns-in-Marked-clause-stands c time r m by before s at may =
    let holder = c.in-Marked.holder in
    extension_refused r m before c.args.self.now c.give_up.new.self c.args.key c.args.wts time c.args.answer.now (why.Marked c.args.key holder) s (inl (holder, c.in-Marked.is, refl)) c.give_up.ensures

pub returns-in-Changed-clause-stands : goal.returns-in-Changed-clause-stands
returns-in-Changed-clause-stands c time r m by before s at may =
    let found = c.in-Changed.found in
    extension_refused r m before c.args.self.now c.give_up-in-Changed.new.self c.args.key c.args.wts time c.args.answer.now (why.Changed c.args.key c.args.wts found) s (inr (found, c.in-Changed.is, refl)) c.give_up-in-Changed.ensures
