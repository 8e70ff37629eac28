use Rattle.std.proofs.Common.{◌≡◌, sym, ◌∙◌, refl}
use Rattle.coco_eval.specs.Standing as eval
use Rattle.coco_occ.specs.Course.{due_of}
use Rattle.coco_occ.specs.Keeping.{reply_in}
use Rattle.coco_occ.proofs.ProgressLemmas.{proceeds}
use Rattle.coco_occ.proofs.progress.proceed.Goals as goal

pub returns-in_default : goal.returns-in_default
returns-in_default c = record {
  goes = λ asked s.
      proceeds c.args.course.now.stage c.args.snapshot c.args.run.now asked c.args.course.now c.next.new.self (reply_in c.args.run.now.standing) (due_of c.next.result c.next.new.op) refl c.in_default.not-Reading c.requires.ready s
      (λ r m reply writes standing w. c.next.ensures.stands r m asked (w ∙ (let g : eval.Ended reply writes ≡ eval.Ended c.writes.ensures.0 c.writes.result.now = sym standing ∙ c.writes.ensures.1 in cc) ∙ sym c.as_slice.ensures));
  run = refl;
  ended = c.next.ensures.ended;
}
