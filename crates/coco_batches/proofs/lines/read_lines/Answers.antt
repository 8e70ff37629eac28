use Rattle.std.proofs.Common.{◌≡◌, ◌+◌, ◌<◌, ◌∷◌, [], Option, length, refl, ap, sym, subst, ◌∙◌, arith, length-append}
use Rattle.std.specs.Prelude.{IfErr}
use Rattle.std.proofs.lemmas.Result.{err_from_is_err_and}
use Rattle.coco_lines.specs.Reads.{Numbers, SourceMoment, source_moment}
use Rattle.coco_lines.specs.declared.reader.Line.{Line}
use Rattle.coco_batches.specs.BatchReading.{AreGiven, BreaksOff}
use Rattle.coco_batches.proofs.BatchLemmas.{breaks_at_line, breaks_at_read}
use Rattle.coco_batches.proofs.GivenLemmas.{given_ends, given_more, given_start, numbered-length}
use Rattle.coco_batches.proofs.lines.read_lines.Goals as goal

pub loop-place-init : goal.loop-place-init
loop-place-init g c = record {
  count = ap (length {A = Line}) c.new-lines.ensures.items;
  given = omega (arith, ap (length {A = Line}) c.new-lines.ensures.items);
  within = c.requires.given;
  reading = given_start c.args.reader.now (source_moment g.S.Source c.args.source.now) c.new-lines.result.items c.new-lines.ensures.items;
  end = λ met. met;
  faults = refl;
}

pub loop-place-preserved : goal.loop-place-preserved
loop-place-preserved g c =
    let old = c.loop-place.invariant in
    let numbers = subst (λ (o : Option Line). Numbers o c.loop-place.reader c.next.new.self) c.in-Some.is c.in_ok-line.ensures.numbers in
    let a : SourceMoment = source_moment g.S.Source c.args.source.now in
    let b : SourceMoment = source_moment g.S.Source c.loop-place.source in
    let n : SourceMoment = source_moment g.S.Source c.next.new.source in
    let more = c.in_ok-add-in-Some.ensures in
    let one : length c.add.new.lines.items ≡ length c.loop-place.lines.items + 1 = ap (length {A = Line}) more ∙ length-append c.loop-place.lines.items (c.in-Some.line ∷ []) in
    record {
      count = one ∙ ap (λ n. n + 1) old.count;
      given = omega (arith, numbers.1, old.given, one);
      within = omega (arith, c.in_ok-line.ensures.few, c.in_ok-line.ensures.limit);
      reading = subst (AreGiven c.args.reader.now c.next.new.self a n) (sym more)
          (given_more c.args.reader.now c.loop-place.reader c.next.new.self a b n c.loop-place.lines.items c.in-Some.line _ c.in-Some.is old.given c.in_ok-line.ensures.reads old.reading);
      end = λ met. c.in_ok-line.ensures.end (old.end met);
      faults = c.in_ok-line.ensures.counts ∙ old.faults;
    }

pub returns-in_err-line-clause-breaks : goal.returns-in_err-line-clause-breaks
returns-in_err-line-clause-breaks g c =
    let old = c.loop-place.invariant in
    let a : SourceMoment = source_moment g.S.Source c.args.source.now in
    let b : SourceMoment = source_moment g.S.Source c.loop-place.source in
    let n : SourceMoment = source_moment g.S.Source c.next.new.source in
    let p = err_from_is_err_and c.from_residual.result c.from_residual.ensures.1 in
    let many = ap (length {A = Line}) old.reading.are ∙ numbered-length (c.args.reader.now.given + 1) old.reading.lines in
    let few : length old.reading.lines < c.args.size = omega (arith, old.count, many, c.loop-place-test.true) in
    subst (λ r. IfErr r (BreaksOff c.args.reader.now c.next.new.self a n c.args.size)) (sym p.1)
    (subst (BreaksOff c.args.reader.now c.next.new.self a n c.args.size) (sym p.2)
    (breaks_at_read c.args.reader.now c.loop-place.reader c.next.new.self a b n old.reading.lines c.args.size c.in_err-line.field-0.0 c.in_err-line.ensures.reads c.in_err-line.ensures.stops few old.reading.takes))

pub returns-in_err-add-in-Some-clause-breaks : goal.returns-in_err-add-in-Some-clause-breaks
returns-in_err-add-in-Some-clause-breaks g c =
    let old = c.loop-place.invariant in
    let a : SourceMoment = source_moment g.S.Source c.args.source.now in
    let b : SourceMoment = source_moment g.S.Source c.loop-place.source in
    let n : SourceMoment = source_moment g.S.Source c.next.new.source in
    let p = err_from_is_err_and c.from_residual-in_err-add-in-Some.result c.from_residual-in_err-add-in-Some.ensures.1 in
    subst (λ r. IfErr r (BreaksOff c.args.reader.now c.next.new.self a n c.args.size)) (sym p.1)
    (subst (BreaksOff c.args.reader.now c.next.new.self a n c.args.size) (sym p.2)
    (breaks_at_line c.args.reader.now c.loop-place.reader c.next.new.self a b n old.reading.lines c.args.size c.in-Some.line _ c.in-Some.is c.in_ok-line.ensures.reads old.reading.takes))

pub returns-in_err-add-in-Some-clause-end : goal.returns-in_err-add-in-Some-clause-end
returns-in_err-add-in-Some-clause-end g c = λ met. c.in_ok-line.ensures.end (c.loop-place.invariant.end met)

pub returns-in-None-clause-lines : goal.returns-in-None-clause-lines
returns-in-None-clause-lines g c =
    let old = c.loop-place.invariant in
    let a : SourceMoment = source_moment g.S.Source c.args.source.now in
    let b : SourceMoment = source_moment g.S.Source c.loop-place.source in
    let n : SourceMoment = source_moment g.S.Source c.next.new.source in
    let end = given_ends c.args.reader.now c.loop-place.reader c.next.new.self a b n c.loop-place.lines.items _ c.in-None.is c.in_ok-line.ensures.reads old.reading in
    record { reading = end.0; few = omega (arith, old.count, c.loop-place-test.true); ends = λ _. (end.1, end.2) }
