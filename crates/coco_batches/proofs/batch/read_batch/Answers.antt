use Rattle.std.proofs.Common.{◌+◌, ◌<◌, Option, length, refl, ap, sym, subst, ◌∙◌, arith}
use Rattle.std.specs.Prelude.{IfErr}
use Rattle.std.proofs.lemmas.Result.{err_from_is_err_and}
use Rattle.coco_lines.specs.Reads.{Numbers, SourceMoment, source_moment}
use Rattle.coco_batches.specs.BatchReading.{BreaksOff}
use Rattle.coco_lines.specs.declared.reader.Line.{Line}
use Rattle.coco_batches.specs.Asking.{MayCommit}
use Rattle.coco_batches.specs.declared.answer.LineAnswer.{LineAnswer}
use Rattle.coco_batches.proofs.BatchLemmas.{batch_ends, breaks_at_line, breaks_at_read, breaks_at_start, none_new, taking_more, taking_start}
use Rattle.coco_batches.proofs.batch.read_batch.Goals as goal

pub loop-place-init : goal.loop-place-init
loop-place-init g c = record {
  new = subst (MayCommit c.args.procs.now c.args.kept.now) (sym c.in_ok-batch.ensures.fresh) (none_new c.args.procs.now c.args.kept.now c.requires.few);
  count = ap (length {A = LineAnswer}) c.in_ok-batch.ensures.answers;
  given = omega (arith, ap (length {A = LineAnswer}) c.in_ok-batch.ensures.answers);
  within = c.requires.given;
  taking = taking_start c.args.procs.now c.args.kept.now c.args.reader.now (source_moment g.S.Source c.args.source.now) c.in_ok-batch.batch c.in_ok-batch.ensures.answers c.in_ok-batch.ensures.fresh;
  end = λ met. met;
  faults = refl;
}

pub loop-place-preserved : goal.loop-place-preserved
loop-place-preserved g c =
    let old = c.loop-place.invariant in
    let numbers = subst (λ (o : Option Line). Numbers o c.loop-place.reader c.next.new.self) c.in-Some.is c.in_ok-line.ensures.numbers in
    record {
      new = c.in_ok-take-in-Some.ensures.new;
      count = c.in_ok-take-in-Some.ensures.one ∙ ap (λ n. n + 1) old.count;
      given = omega (arith, numbers.1, old.given, c.in_ok-take-in-Some.ensures.one);
      within = omega (arith, c.in_ok-line.ensures.few, c.in_ok-line.ensures.limit);
      taking =
          taking_more c.args.procs.now c.args.kept.now c.args.reader.now c.loop-place.reader c.next.new.self (source_moment g.S.Source c.args.source.now) (source_moment g.S.Source c.loop-place.source) (source_moment g.S.Source c.next.new.source)
          c.loop-place.batch _ c.in-Some.line _ c.in-Some.is old.given c.in_ok-line.ensures.reads
          (λ bytes body. let t = c.in_ok-take-in-Some.ensures.line bytes body in record { class = t.0; is = t.1; answers = t.2; fresh = t.3 }) old.taking;
      end = λ met. c.in_ok-line.ensures.end (old.end met);
      faults = c.in_ok-line.ensures.counts ∙ old.faults;
    }

pub returns-in_err-batch-clause-breaks : goal.returns-in_err-batch-clause-breaks
returns-in_err-batch-clause-breaks g c =
    let a : SourceMoment = source_moment g.S.Source c.args.source.now in
    let p = err_from_is_err_and c.from_residual.result c.from_residual.ensures.1 in
    subst (λ r. IfErr r (BreaksOff c.args.reader.now c.args.reader.now a a c.args.size)) (sym p.1)
    (subst (BreaksOff c.args.reader.now c.args.reader.now a a c.args.size) (sym p.2) (breaks_at_start c.args.reader.now a c.args.size))

pub returns-in_err-line-clause-breaks : goal.returns-in_err-line-clause-breaks
returns-in_err-line-clause-breaks g c =
    let old = c.loop-place.invariant in
    let a : SourceMoment = source_moment g.S.Source c.args.source.now in
    let b : SourceMoment = source_moment g.S.Source c.loop-place.source in
    let n : SourceMoment = source_moment g.S.Source c.next.new.source in
    let p = err_from_is_err_and c.from_residual-in_err-line.result c.from_residual-in_err-line.ensures.1 in
    let few : length old.taking.lines < c.args.size = omega (arith, old.count, old.taking.as_many, c.loop-place-test.true) in
    subst (λ r. IfErr r (BreaksOff c.args.reader.now c.next.new.self a n c.args.size)) (sym p.1)
    (subst (BreaksOff c.args.reader.now c.next.new.self a n c.args.size) (sym p.2)
    (breaks_at_read c.args.reader.now c.loop-place.reader c.next.new.self a b n old.taking.lines c.args.size c.in_err-line.field-0.0 c.in_err-line.ensures.reads c.in_err-line.ensures.stops few old.taking.takes))

pub returns-in_err-take-in-Some-clause-breaks : goal.returns-in_err-take-in-Some-clause-breaks
returns-in_err-take-in-Some-clause-breaks g c =
    let a : SourceMoment = source_moment g.S.Source c.args.source.now in
    let b : SourceMoment = source_moment g.S.Source c.loop-place.source in
    let n : SourceMoment = source_moment g.S.Source c.next.new.source in
    let p = err_from_is_err_and c.from_residual-in_err-take-in-Some.result c.from_residual-in_err-take-in-Some.ensures.1 in
    subst (λ r. IfErr r (BreaksOff c.args.reader.now c.next.new.self a n c.args.size)) (sym p.1)
    (subst (BreaksOff c.args.reader.now c.next.new.self a n c.args.size) (sym p.2)
    (breaks_at_line c.args.reader.now c.loop-place.reader c.next.new.self a b n c.loop-place.invariant.taking.lines c.args.size c.in-Some.line _ c.in-Some.is c.in_ok-line.ensures.reads
    c.loop-place.invariant.taking.takes))

pub returns-in_err-take-in-Some-clause-end : goal.returns-in_err-take-in-Some-clause-end
returns-in_err-take-in-Some-clause-end g c = λ met. c.in_ok-line.ensures.end (c.loop-place.invariant.end met)

pub returns-in-None-clause-batch : goal.returns-in-None-clause-batch
returns-in-None-clause-batch g c =
    let old = c.loop-place.invariant in
    let end = batch_ends c.args.procs.now c.args.kept.now c.args.reader.now c.loop-place.reader c.next.new.self (source_moment g.S.Source c.args.source.now) (source_moment g.S.Source c.loop-place.source) (source_moment g.S.Source c.next.new.source)
    c.loop-place.batch _ c.in-None.is c.in_ok-line.ensures.reads old.taking in
    record { taking = end.0; few = omega (arith, old.count, c.loop-place-test.true); ends = λ _. (end.1, end.2) }
