use Rattle.std.proofs.Common.{◌≤◌, ◌<◌, take, Err, length, refl, ap, sym, subst, ◌∙◌, arith, inl, inr, lit≤, true≢false}
use Rattle.coco_types.specs.Limits.{most_batch_lines, most_input_bytes}
use Rattle.coco_io.specs.Counts.{Rose}
use Rattle.coco_lines.specs.ReaderState.{ReaderState}
use Rattle.coco_lines.specs.Reads.{SourceMoment, source_moment}
use Rattle.coco_query.specs.Frozen.{HoldsFrozen}
use Rattle.coco_asks.specs.Answering.{Streams}
use Rattle.coco_asks.specs.declared.ending.Asked.TheVariants as ending
use Rattle.coco_asks.proofs.EndLemmas.{all_said, answers_so, asking_more, asking_new, broken_failed, broken_memory, broken_much, finished, part_said, said_in_part, unanswered}
use Rattle.coco_asks.proofs.HostLemmas.{says_more}
use Rattle.coco_asks.proofs.input.answer_asks.Goals as goal

pub batches-init : goal.batches-init
batches-init g c = record {
  asking = asking_new g.H.Host c.args.procs.now c.args.tables.items c.args.bounds.epoch g.met.H.Host.only_now c.new-reader.result (source_moment g.S.Source c.args.input.now) c.args.host.now c.new-reader.ensures;
  tables = refl;
  within = subst (λ (r : ReaderState). r.given ≤ most_input_bytes) (sym c.new-reader.ensures) (lit≤ tt);
  end = λ met. absurd (true≢false (sym met ∙ ap (λ r. r.ended) c.new-reader.ensures));
  reads = refl;
  says = refl;
  disks = refl;
}

pub read_lines-requires : goal.read_lines-requires
read_lines-requires g c = record { given = c.batches.invariant.within }

pub answer_batch-answered-requires-clause-some : goal.answer_batch-answered-requires-clause-some
answer_batch-answered-requires-clause-some g c κs within = (let n = ap length c.batches.invariant.tables in omega (arith, n, c.requires.some))

pub returns-in-Err-NoMemory-clause-answers : goal.returns-in-Err-NoMemory-clause-answers
returns-in-Err-NoMemory-clause-answers g c =
    let inv = c.batches.invariant in
    let m0 : SourceMoment = source_moment g.S.Source c.args.input.now in
    let m1 : SourceMoment = source_moment g.S.Source c.batches.input in
    let m2 : SourceMoment = source_moment g.S.Source c.read_lines.new.source in
    let before : Streams = record { source = (source_moment g.S.Source c.args.input.now); source_faults = g.S.Source.faults c.args.input.now; say_faults = g.H.Host.say_faults c.args.host.now } in
    let after : Streams = record { source = (source_moment g.S.Source c.read_lines.new.source); source_faults = g.S.Source.faults c.read_lines.new.source; say_faults = g.H.Host.say_faults c.batches.host } in
    let to = broken_memory g.H.Host c.args.procs.now c.args.tables.items c.args.bounds.epoch c.batches.reader c.read_lines.new.reader m0 m1 m2 c.args.host.now c.batches.host inv.asking c.in-Err-NoMemory.field-0 c.in-Err-NoMemory.ensures.breaks in
    let counts = rw c.in-Err-NoMemory.field-0-is at c.in-Err-NoMemory.ensures.counts in
    answers_so g.H.Host c.args.procs.now c.args.tables.items c.args.bounds.epoch c.read_lines.new.reader before after ending.NoMemory c.args.host.now c.batches.host to (counts ∙ inv.reads, inv.says)

pub returns-in-Err-Failed-clause-answers : goal.returns-in-Err-Failed-clause-answers
returns-in-Err-Failed-clause-answers g c =
    let inv = c.batches.invariant in
    let m0 : SourceMoment = source_moment g.S.Source c.args.input.now in
    let m1 : SourceMoment = source_moment g.S.Source c.batches.input in
    let m2 : SourceMoment = source_moment g.S.Source c.read_lines.new.source in
    let before : Streams = record { source = (source_moment g.S.Source c.args.input.now); source_faults = g.S.Source.faults c.args.input.now; say_faults = g.H.Host.say_faults c.args.host.now } in
    let after : Streams = record { source = (source_moment g.S.Source c.read_lines.new.source); source_faults = g.S.Source.faults c.read_lines.new.source; say_faults = g.H.Host.say_faults c.batches.host } in
    let to = broken_failed g.H.Host c.args.procs.now c.args.tables.items c.args.bounds.epoch c.batches.reader c.read_lines.new.reader m0 m1 m2 c.args.host.now c.batches.host inv.asking c.in-Err-Failed.field-0 c.in-Err-Failed.ensures.breaks c.in-Err-Failed.field-0-is in
    let counts = rw c.in-Err-Failed.field-0-is at c.in-Err-Failed.ensures.counts in
    answers_so g.H.Host c.args.procs.now c.args.tables.items c.args.bounds.epoch c.read_lines.new.reader before after ending.ReadFault c.args.host.now c.batches.host to (inl (subst (λ k. Rose k (g.S.Source.faults c.read_lines.new.source)) inv.reads counts), inv.says)

pub returns-in-Err-TooMuch-clause-answers : goal.returns-in-Err-TooMuch-clause-answers
returns-in-Err-TooMuch-clause-answers g c =
    let inv = c.batches.invariant in
    let m0 : SourceMoment = source_moment g.S.Source c.args.input.now in
    let m1 : SourceMoment = source_moment g.S.Source c.batches.input in
    let m2 : SourceMoment = source_moment g.S.Source c.read_lines.new.source in
    let before : Streams = record { source = (source_moment g.S.Source c.args.input.now); source_faults = g.S.Source.faults c.args.input.now; say_faults = g.H.Host.say_faults c.args.host.now } in
    let after : Streams = record { source = (source_moment g.S.Source c.read_lines.new.source); source_faults = g.S.Source.faults c.read_lines.new.source; say_faults = g.H.Host.say_faults c.batches.host } in
    let to = broken_much g.H.Host c.args.procs.now c.args.tables.items c.args.bounds.epoch c.batches.reader c.read_lines.new.reader m0 m1 m2 c.args.host.now c.batches.host inv.asking c.in-Err-TooMuch.field-0 c.in-Err-TooMuch.ensures.breaks c.in-Err-TooMuch.field-0-is in
    answers_so g.H.Host c.args.procs.now c.args.tables.items c.args.bounds.epoch c.read_lines.new.reader before after ending.ReadFault c.args.host.now c.batches.host to (inr (sym to.count ∙ c.in-Err-TooMuch.ensures.too_much (ap Err c.in-Err-TooMuch.field-0-is)), inv.says)

pub returns-in_default-clause-answers : goal.returns-in_default-clause-answers
returns-in_default-clause-answers g c =
    let inv = c.batches.invariant in
    let m0 : SourceMoment = source_moment g.S.Source c.args.input.now in
    let m1 : SourceMoment = source_moment g.S.Source c.batches.input in
    let m2 : SourceMoment = source_moment g.S.Source c.read_lines.new.source in
    let before : Streams = record { source = (source_moment g.S.Source c.args.input.now); source_faults = g.S.Source.faults c.args.input.now; say_faults = g.H.Host.say_faults c.args.host.now } in
    let after : Streams = record { source = (source_moment g.S.Source c.read_lines.new.source); source_faults = g.S.Source.faults c.read_lines.new.source; say_faults = g.H.Host.say_faults c.batches.host } in
    let to = unanswered g.H.Host c.args.procs.now c.args.tables.items c.args.bounds.epoch c.batches.reader c.read_lines.new.reader m0 m1 m2 c.args.host.now c.batches.host inv.asking c.in-Ok.lines.items c.in-Ok.ensures.lines in
    answers_so g.H.Host c.args.procs.now c.args.tables.items c.args.bounds.epoch c.read_lines.new.reader before after ending.NoMemory c.args.host.now c.batches.host to (c.in-Ok.ensures.counts ∙ inv.reads, inv.says)

pub returns-in-Err-Failed-say_all-clause-answers : goal.returns-in-Err-Failed-say_all-clause-answers
returns-in-Err-Failed-say_all-clause-answers g c =
    let inv = c.batches.invariant in
    let m0 : SourceMoment = source_moment g.S.Source c.args.input.now in
    let m1 : SourceMoment = source_moment g.S.Source c.batches.input in
    let m2 : SourceMoment = source_moment g.S.Source c.read_lines.new.source in
    let before : Streams = record { source = (source_moment g.S.Source c.args.input.now); source_faults = g.S.Source.faults c.args.input.now; say_faults = g.H.Host.say_faults c.args.host.now } in
    let after : Streams = record { source = (source_moment g.S.Source c.read_lines.new.source); source_faults = g.S.Source.faults c.read_lines.new.source; say_faults = g.H.Host.say_faults c.say_all.new.host } in
    let said = c.in-Err-Failed-say_all.ensures.err in
    let text = c.in-Ok-answered.texts.items in
    let part = part_said (g.H.Host.said c.batches.host) (g.H.Host.said c.say_all.new.host) c.as_slice.result.now c.in-Ok-answered.texts.items said.0 c.as_slice.ensures.value said.2 in
    let only = says_more g.H.Host c.args.host.now c.batches.host c.say_all.new.host inv.asking.text (take said.0 text) inv.asking.only part c.say_all.ensures.same c.say_all.ensures.crash c.say_all.ensures.sees in
    let to = said_in_part g.H.Host c.args.procs.now c.args.tables.items c.args.bounds.epoch c.batches.reader c.read_lines.new.reader m0 m1 m2 c.args.host.now c.batches.host inv.asking c.in-Ok.lines.items c.in-Ok.ensures.lines text
    (λ rows k of holds. c.in-Ok-answered.ensures.texts rows k of (subst (HoldsFrozen rows) (sym inv.tables) holds)) ending.SayFault said.0 c.say_all.new.host only (inl refl) in
    let counts = rw c.in-Err-Failed-say_all.field-0-is at c.in-Err-Failed-say_all.ensures.counts in
    answers_so g.H.Host c.args.procs.now c.args.tables.items c.args.bounds.epoch c.read_lines.new.reader before after ending.SayFault c.args.host.now c.say_all.new.host to (subst (λ k. Rose k (g.H.Host.say_faults c.say_all.new.host)) inv.says counts, c.in-Ok.ensures.counts ∙ inv.reads)

pub returns-in-Err-NoMemory-say_all-clause-answers : goal.returns-in-Err-NoMemory-say_all-clause-answers
returns-in-Err-NoMemory-say_all-clause-answers g c =
    let inv = c.batches.invariant in
    let m0 : SourceMoment = source_moment g.S.Source c.args.input.now in
    let m1 : SourceMoment = source_moment g.S.Source c.batches.input in
    let m2 : SourceMoment = source_moment g.S.Source c.read_lines.new.source in
    let before : Streams = record { source = (source_moment g.S.Source c.args.input.now); source_faults = g.S.Source.faults c.args.input.now; say_faults = g.H.Host.say_faults c.args.host.now } in
    let after : Streams = record { source = (source_moment g.S.Source c.read_lines.new.source); source_faults = g.S.Source.faults c.read_lines.new.source; say_faults = g.H.Host.say_faults c.say_all.new.host } in
    let said = c.in-Err-NoMemory-say_all.ensures.err in
    let text = c.in-Ok-answered.texts.items in
    let part = part_said (g.H.Host.said c.batches.host) (g.H.Host.said c.say_all.new.host) c.as_slice.result.now c.in-Ok-answered.texts.items said.0 c.as_slice.ensures.value said.2 in
    let only = says_more g.H.Host c.args.host.now c.batches.host c.say_all.new.host inv.asking.text (take said.0 text) inv.asking.only part c.say_all.ensures.same c.say_all.ensures.crash c.say_all.ensures.sees in
    let to = said_in_part g.H.Host c.args.procs.now c.args.tables.items c.args.bounds.epoch c.batches.reader c.read_lines.new.reader m0 m1 m2 c.args.host.now c.batches.host inv.asking c.in-Ok.lines.items c.in-Ok.ensures.lines text
    (λ rows k of holds. c.in-Ok-answered.ensures.texts rows k of (subst (HoldsFrozen rows) (sym inv.tables) holds)) ending.NoMemory said.0 c.say_all.new.host only (inr refl) in
    let counts = rw c.in-Err-NoMemory-say_all.field-0-is at c.in-Err-NoMemory-say_all.ensures.counts in
    answers_so g.H.Host c.args.procs.now c.args.tables.items c.args.bounds.epoch c.read_lines.new.reader before after ending.NoMemory c.args.host.now c.say_all.new.host to (c.in-Ok.ensures.counts ∙ inv.reads, counts ∙ inv.says)

pub returns-then-count-lt-MOST_BATCH_LINES-clause-answers : goal.returns-then-count-lt-MOST_BATCH_LINES-clause-answers
returns-then-count-lt-MOST_BATCH_LINES-clause-answers g c =
    let inv = c.batches.invariant in
    let m0 : SourceMoment = source_moment g.S.Source c.args.input.now in
    let m1 : SourceMoment = source_moment g.S.Source c.batches.input in
    let m2 : SourceMoment = source_moment g.S.Source c.read_lines.new.source in
    let before : Streams = record { source = (source_moment g.S.Source c.args.input.now); source_faults = g.S.Source.faults c.args.input.now; say_faults = g.H.Host.say_faults c.args.host.now } in
    let after : Streams = record { source = (source_moment g.S.Source c.read_lines.new.source); source_faults = g.S.Source.faults c.read_lines.new.source; say_faults = g.H.Host.say_faults c.say_all.new.host } in
    let text = c.in-Ok-answered.texts.items in
    let all = all_said (g.H.Host.said c.batches.host) (g.H.Host.said c.say_all.new.host) c.as_slice.result.now c.in-Ok-answered.texts.items c.as_slice.ensures.value c.in-Ok-say_all.ensures.ok in
    let only = says_more g.H.Host c.args.host.now c.batches.host c.say_all.new.host inv.asking.text text inv.asking.only all c.say_all.ensures.same c.say_all.ensures.crash c.say_all.ensures.sees in
    let short : length c.in-Ok.lines.items < most_batch_lines = omega (arith, c.len-count.ensures, c.in-Ok.lines.ok.0, c.if-count-lt-MOST_BATCH_LINES.true) in
    let to = finished g.H.Host c.args.procs.now c.args.tables.items c.args.bounds.epoch c.batches.reader c.read_lines.new.reader m0 m1 m2 c.args.host.now c.batches.host inv.asking c.in-Ok.lines.items c.in-Ok.ensures.lines text
    (λ rows k of holds. c.in-Ok-answered.ensures.texts rows k of (subst (HoldsFrozen rows) (sym inv.tables) holds)) short c.say_all.new.host only in
    let end = c.in-Ok.ensures.end inv.end (c.in-Ok.ensures.lines.ends short).0 in
    answers_so g.H.Host c.args.procs.now c.args.tables.items c.args.bounds.epoch c.read_lines.new.reader before after ending.Finished c.args.host.now c.say_all.new.host to (end, c.in-Ok.ensures.counts ∙ inv.reads, c.in-Ok-say_all.ensures.counts ∙ inv.says)

pub batches-smaller : goal.batches-smaller
batches-smaller g c = (let given = c.in-Ok.ensures.given in let within = c.in-Ok.ensures.within in omega (arith, given, within, c.len-count.ensures, c.in-Ok.lines.ok.0, c.if-count-lt-MOST_BATCH_LINES.false))

pub batches-preserved : goal.batches-preserved
batches-preserved g c =
    let inv = c.batches.invariant in
    let m0 : SourceMoment = source_moment g.S.Source c.args.input.now in
    let m1 : SourceMoment = source_moment g.S.Source c.batches.input in
    let m2 : SourceMoment = source_moment g.S.Source c.read_lines.new.source in
    let text = c.in-Ok-answered.texts.items in
    let all = all_said (g.H.Host.said c.batches.host) (g.H.Host.said c.say_all.new.host) c.as_slice.result.now c.in-Ok-answered.texts.items c.as_slice.ensures.value c.in-Ok-say_all.ensures.ok in
    let only = says_more g.H.Host c.args.host.now c.batches.host c.say_all.new.host inv.asking.text text inv.asking.only all c.say_all.ensures.same c.say_all.ensures.crash c.say_all.ensures.sees in
    let full : most_batch_lines ≤ length c.in-Ok.lines.items = omega (arith, c.len-count.ensures, c.in-Ok.lines.ok.0, c.if-count-lt-MOST_BATCH_LINES.false) in
    record {
      asking = asking_more g.H.Host c.args.procs.now c.args.tables.items c.args.bounds.epoch c.batches.reader c.read_lines.new.reader m0 m1 m2 c.args.host.now c.batches.host inv.asking c.in-Ok.lines.items c.in-Ok.ensures.lines text
          (λ rows k of holds. c.in-Ok-answered.ensures.texts rows k of (subst (HoldsFrozen rows) (sym inv.tables) holds)) full c.in-Ok.ensures.given c.say_all.new.host only;
      tables = c.in-Ok-answered.ensures.back ∙ inv.tables;
      within = c.in-Ok.ensures.within;
      end = c.in-Ok.ensures.end inv.end;
      reads = c.in-Ok.ensures.counts ∙ inv.reads;
      says = c.in-Ok-say_all.ensures.counts ∙ inv.says;
      disks = c.say_all.ensures.others ∙ inv.disks;
    }
