use Rattle.std.proofs.Common.{◌≡◌, List, None, map, sym, ap, ◌∙◌, subst}
use Rattle.coco_types.specs.declared.call.Write.{Write}
use Rattle.coco_eval.specs.Standing as eval
use Rattle.coco_occ.specs.Course.{due_of, wts_in, Rise}
use Rattle.coco_occ.specs.Keeping.{reply_in}
use Rattle.coco_occ.proofs.ProgressLemmas.{goes_told, reads_next, snapshot_next, course_next}
use Rattle.coco_occ.proofs.progress.read_on.Goals as goal

pub returns-in-Some-clause-goes : goal.returns-in-Some-clause-goes
returns-in-Some-clause-goes c asked s =
    let is = c.in-Some.ensures.others ∙ ap (λ (x : eval.Standing). record c.args.run.now { standing = x }) c.in-Some.ensures.key in
    reads_next c.args.snapshot c.args.run.now c.next_key.new.self asked c.args.course.now (reply_in c.next_key.new.self.standing) c.in-Some.key c.set_reading.new.op c.requires.stage is c.set_reading.ensures s c.in-Some.ensures.sound c.in-Some.ensures.few

pub returns-then-snapshot-clause-goes : goal.returns-then-snapshot-clause-goes
returns-then-snapshot-clause-goes c asked s =
    let next = c.in-None.ensures.key in
    let is = c.in-None.ensures.others ∙ ap (λ (x : eval.Standing). record c.args.run.now { standing = x }) next.2 in
    goes_told c.args.snapshot c.next_key.new.self asked c.finish.new.self next.0 None
    (snapshot_next c.args.snapshot c.args.run.now c.next_key.new.self asked c.args.course.now c.finish.new.self next.0 next.1 c.if-snapshot.true is c.finish.ensures s c.in-None.ensures.sound)

pub returns-else-snapshot-clause-goes : goal.returns-else-snapshot-clause-goes
returns-else-snapshot-clause-goes c asked s =
    let next = c.in-None.ensures.key in
    let is = c.in-None.ensures.others ∙ ap (λ (x : eval.Standing). record c.args.run.now { standing = x }) next.2 in
    let due = due_of c.next.result c.next.new.op in
    let written : c.as_slice-writes.result.now ≡ next.1 = c.as_slice-writes.ensures ∙ (let g : eval.Ended c.writes.ensures.0 c.writes.result.now ≡ eval.Ended next.0 next.1 = sym c.writes.ensures.1 ∙ next.2 in cc) in
    goes_told c.args.snapshot c.next_key.new.self asked c.next.new.self next.0 due
    (course_next c.args.snapshot c.args.run.now c.next_key.new.self asked c.args.course.now c.settle.new.self c.next.new.self next.0 next.1 due c.if-snapshot.false is
    (record { expected = λ rising. c.settle.ensures.expected (subst Rise (sym written) rising) ∙ ap (λ (ws : List Write). map (λ w. wts_in c.args.course.now.seen.items w.key) ws) written; others = c.settle.ensures.others })
    s c.in-None.ensures.sound c.in-None.ensures.few (λ r m w. c.next.ensures.stands r m asked (w ∙ sym written)))
