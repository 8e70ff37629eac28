use Rattle.coco_occ.proofs.CourseLemmas.{lock_refused}
use Rattle.coco_occ.proofs.course.Course.take_lock.Goals as goal

pub returns-in-Marked-clause-stands : goal.returns-in-Marked-clause-stands
returns-in-Marked-clause-stands c r m by before s at may =
    lock_refused r m before c.args.self.now c.give_up.new.self c.args.key c.in-Marked.holder c.args.answer.now s c.in-Marked.is c.give_up.ensures
