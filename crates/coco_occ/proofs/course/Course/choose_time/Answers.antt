use Rattle.std.proofs.Common.{None, sym, subst, arith}
use Rattle.coco_occ.specs.Course.{IsExtending, Closes}
use Rattle.coco_occ.specs.declared.course.Course.{Course}
use Rattle.coco_occ.proofs.CourseLemmas.{time_chosen, over_time}
use Rattle.coco_occ.proofs.course.Course.choose_time.Goals as goal

pub returns-then-self-lt-MOST_TIME-clause-stands : goal.returns-then-self-lt-MOST_TIME-clause-stands
returns-then-self-lt-MOST_TIME-clause-stands c r m asked is s get =
    c.next_extension.ensures.stands r m asked is
    (subst (λ (d : Course). IsExtending r m asked d None) (sym c.enter.ensures)
    (time_chosen r m asked c.args.self.now s get c.if-self-lt-MOST_TIME.true))

pub returns-else-self-lt-MOST_TIME-clause-stands : goal.returns-else-self-lt-MOST_TIME-clause-stands
returns-else-self-lt-MOST_TIME-clause-stands c r m asked is s get =
    c.next_end.ensures.stands r m asked is
    (subst (λ (d : Course). Closes d.stage r m asked d None) (sym c.enter-else-self-lt-MOST_TIME.ensures)
    (over_time r m asked c.args.self.now s get (let h = c.if-self-lt-MOST_TIME.false in omega (arith, h))))
