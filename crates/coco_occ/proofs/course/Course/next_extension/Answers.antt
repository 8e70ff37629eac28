use Rattle.std.proofs.Common.{None, sym, subst}
use Rattle.coco_occ.specs.Course.{Closes}
use Rattle.coco_occ.specs.declared.course.Course.{Course}
use Rattle.coco_occ.proofs.CourseLemmas.{extended_whole}
use Rattle.coco_occ.proofs.course.Course.next_extension.Goals as goal

pub returns-in-None-clause-stands : goal.returns-in-None-clause-stands
returns-in-None-clause-stands c r m asked is s =
    c.next_end.ensures.stands r m asked is (subst (λ (d : Course). Closes d.stage r m asked d None) (sym c.enter.ensures) (extended_whole r m asked c.extension.new.self (c.in-None.ensures.due r m asked is s) c.in-None.ensures.all))
