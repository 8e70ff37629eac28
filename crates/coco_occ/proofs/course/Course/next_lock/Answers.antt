use Rattle.std.proofs.Common.{List, None, ap, ◌∙◌}
use Rattle.std.specs.List.{slice_get}
use Rattle.coco_types.specs.declared.call.Write.{Write}
use Rattle.coco_occ.proofs.CourseLemmas.{got_at}
use Rattle.coco_occ.proofs.course.Course.next_lock.Goals as goal

pub returns-in-None-clause-stands : goal.returns-in-None-clause-stands
returns-in-None-clause-stands c r m asked is s =
    c.choose_time.ensures.stands r m asked is s (ap (λ (l : List Write). slice_get l c.args.self.now.place) is ∙ got_at c.args.writes.now c.args.self.now.place None c.in-None.ensures.lookup.3)
