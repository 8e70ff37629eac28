use Rattle.std.proofs.Common.{◌≤◌, ◌<◌, Err, length, refl, ap, sym, subst, ◌∙◌, arith, inl, inr, lit≤, true≢false}
use Rattle.std.proofs.lemmas.Result.{err_from_is_err_and}
use Rattle.coco_types.specs.Limits.{most_input_bytes}
use Rattle.coco_types.specs.declared.call.Request.{Request}
use Rattle.coco_cluster.specs.Around.{Around, around, spare}
use Rattle.coco_cluster.proofs.AroundLemmas.{later_same, later_then, spare_then}
use Rattle.coco_io.specs.Counts.{Rose}
use Rattle.coco_lines.specs.ReaderState.{ReaderState}
use Rattle.coco_lines.specs.Reads.{SourceMoment, source_moment}
use Rattle.coco_serve.specs.Faults.{Counts}
use Rattle.coco_serve.specs.Serving.{Outside, Runs}
use Rattle.coco_serve.proofs.EndLemmas.{batch_broke, broken_failed, broken_memory, broken_much, cause_of, finished_empty, finished_last, reason_of, running_more, running_new}
use Rattle.coco_lines.proofs.ClassLemmas.{classes_length}
use Rattle.coco_serve.proofs.RunLemmas.{few_new}
use Rattle.coco_serve.proofs.all_batches.answer_lines.Goals as goal

pub batches-init : goal.batches-init
batches-init g c = record {
  running = running_new g.H.Host g.met.H.Host.only_now c.args.bounds c.new-reader.result _ c.args.cluster.now c.args.host.now _ c.new-reader.ensures;
  later = later_same _;
  within = subst (λ (r : ReaderState). r.given ≤ most_input_bytes) (sym c.new-reader.ensures) (lit≤ tt);
  end = λ met. absurd (true≢false (sym met ∙ ap (λ r. r.ended) c.new-reader.ensures));
  sound = c.requires.sound;
  room = c.requires.room;
  stand = c.requires.stand;
  reads = refl;
  says = refl;
  disks = refl;
}

pub returns-in-Err-NoMemory : goal.returns-in-Err-NoMemory
returns-in-Err-NoMemory g c =
    let m0 : SourceMoment = source_moment g.S.Source c.args.input.now in
    let m1 : SourceMoment = source_moment g.S.Source c.batches.input in
    let m2 : SourceMoment = source_moment g.S.Source c.read_batch.new.source in
    let w = broken_memory g.H.Host c.args.cluster.now.next_epoch _ c.args.bounds c.batches.reader c.read_batch.new.reader m0 m1 m2 c.args.cluster.now c.batches.cluster
    c.args.host.now c.batches.host c.batches.invariant.running g.met.H.Host.seen_now c.in-Err-NoMemory.field-0 c.in-Err-NoMemory.ensures.breaks in
    record { bytes = w.bytes; gives = w.gives; later = c.batches.invariant.later; cause = tt; serves = w.serves }

pub returns-in-Err-Failed : goal.returns-in-Err-Failed
returns-in-Err-Failed g c =
    let m0 : SourceMoment = source_moment g.S.Source c.args.input.now in
    let m1 : SourceMoment = source_moment g.S.Source c.batches.input in
    let m2 : SourceMoment = source_moment g.S.Source c.read_batch.new.source in
    let w = broken_failed g.H.Host c.args.cluster.now.next_epoch _ c.args.bounds c.batches.reader c.read_batch.new.reader m0 m1 m2 c.args.cluster.now c.batches.cluster
    c.args.host.now c.batches.host c.batches.invariant.running g.met.H.Host.seen_now c.in-Err-Failed.field-0 c.in-Err-Failed.ensures.breaks c.in-Err-Failed.field-0-is in
    let rose = subst (λ k. Rose k (g.S.Source.faults c.read_batch.new.source)) c.batches.invariant.reads (rw c.in-Err-Failed.field-0-is at c.in-Err-Failed.ensures.counts) in
    record { bytes = w.bytes; gives = w.gives; later = c.batches.invariant.later; cause = inl rose; serves = w.serves }

pub returns-in-Err-TooMuch : goal.returns-in-Err-TooMuch
returns-in-Err-TooMuch g c =
    let m0 : SourceMoment = source_moment g.S.Source c.args.input.now in
    let m1 : SourceMoment = source_moment g.S.Source c.batches.input in
    let m2 : SourceMoment = source_moment g.S.Source c.read_batch.new.source in
    let w = broken_much g.H.Host c.args.cluster.now.next_epoch _ c.args.bounds c.batches.reader c.read_batch.new.reader m0 m1 m2 c.args.cluster.now c.batches.cluster
    c.args.host.now c.batches.host c.batches.invariant.running g.met.H.Host.seen_now c.in-Err-TooMuch.field-0 c.in-Err-TooMuch.ensures.breaks c.in-Err-TooMuch.field-0-is in
    record { bytes = w.bytes; gives = w.gives; later = c.batches.invariant.later; cause = inr (sym w.count ∙ c.in-Err-TooMuch.ensures.too_much (ap Err c.in-Err-TooMuch.field-0-is)); serves = w.serves }

pub returns-then-count-eq0 : goal.returns-then-count-eq0
returns-then-count-eq0 g c =
    let m0 : SourceMoment = source_moment g.S.Source c.args.input.now in
    let m1 : SourceMoment = source_moment g.S.Source c.batches.input in
    let m2 : SourceMoment = source_moment g.S.Source c.read_batch.new.source in
    let r = c.in-Ok.ensures.batch in
    let w = finished_empty g.H.Host c.args.cluster.now.next_epoch _ c.args.bounds c.batches.reader c.read_batch.new.reader m0 m1 m2 c.args.cluster.now c.batches.cluster c.args.host.now c.batches.host c.batches.invariant.running g.met.H.Host.seen_now
    c.in-Ok.batch r (omega (arith, c.len-count.ensures, c.if-count-eq0.true)) c.requires.some in
    let end = c.in-Ok.ensures.end c.batches.invariant.end (r.ends (omega (arith, c.len-count.ensures, c.if-count-eq0.true, c.requires.some))).0 in
    record { bytes = w.bytes; gives = w.gives; later = c.batches.invariant.later; cause = end; serves = w.serves }

pub turn_and_say-requires-clause-few : goal.turn_and_say-requires-clause-few
turn_and_say-requires-clause-few g c =
    let r = c.in-Ok.ensures.batch in
    let few = few_new r.taking.classes in
    let fresh = ap (length {A = Request}) r.taking.fresh in
    let counted = classes_length _ _ r.taking.lines r.taking.classes r.taking.are in
    omega (arith, few, fresh, counted, r.taking.as_many, r.few, c.requires.few)

pub returns-in_err-turn_and_say : goal.returns-in_err-turn_and_say
returns-in_err-turn_and_say g c =
    let m0 : SourceMoment = source_moment g.S.Source c.args.input.now in
    let m1 : SourceMoment = source_moment g.S.Source c.batches.input in
    let m2 : SourceMoment = source_moment g.S.Source c.read_batch.new.source in
    let a0 : Around = around g.N.Net g.P.Power c.args.net.now c.args.power.now in
    let a1 : Around = around g.N.Net g.P.Power c.batches.net c.batches.power in
    let a2 : Around = around g.N.Net g.P.Power c.turn_and_say.new.net c.turn_and_say.new.power in
    let later = c.turn_and_say.ensures.later in
    let adds = spare_then a0 a1 a2 c.batches.invariant.later later in
    let n1 : Counts = (record { say = g.H.Host.say_faults c.batches.host; disk = g.H.Host.disk_faults c.batches.host }) in
    let n2 : Counts = (record { say = g.H.Host.say_faults c.turn_and_say.new.host; disk = g.H.Host.disk_faults c.turn_and_say.new.host }) in
    let r = c.in-Ok.ensures.batch in
    let p = err_from_is_err_and c.from_residual.result c.from_residual.ensures.1 in
    let w = batch_broke g.H.Host c.args.cluster.now.next_epoch _ c.args.bounds c.batches.reader c.read_batch.new.reader m0 m1 m2 c.args.cluster.now c.batches.cluster c.args.host.now c.batches.host c.batches.invariant.running g.met.H.Host.seen_now
    c.in-Ok.batch r (spare a1 a2) (spare a0 a2) c.turn_and_say.result c.in_err-turn_and_say.field-0.0 c.turn_and_say.new.cluster c.turn_and_say.new.host adds c.in_err-turn_and_say.was c.turn_and_say.ensures.answers
    (reason_of c.in_err-turn_and_say.field-0.0 c.batches.cluster.next_epoch (length c.in-Ok.batch.fresh) a1 a2 n1 n2 c.in_err-turn_and_say.ensures.counts) (omega (arith, c.len-count.ensures, c.if-count-eq0.false)) in
    let before : Outside = (record { source = source_moment g.S.Source c.args.input.now; source_faults = g.S.Source.faults c.args.input.now; say_faults = g.H.Host.say_faults c.args.host.now; disk_faults = g.H.Host.disk_faults c.args.host.now; around = a0 }) in
    let after : Outside = (record { source = source_moment g.S.Source c.read_batch.new.source; source_faults = g.S.Source.faults c.read_batch.new.source; say_faults = g.H.Host.say_faults c.turn_and_say.new.host; disk_faults = g.H.Host.disk_faults c.turn_and_say.new.host; around = a2 }) in
    subst (λ e. Runs g.H.Host c.args.cluster.now c.args.bounds before after e c.args.host.now c.turn_and_say.new.host) (sym (p.1 ∙ ap Err p.2)) (record {
      bytes = w.bytes;
      gives = w.gives;
      later = later_then a0 a1 a2 c.batches.invariant.later later;
      cause = cause_of c.in_err-turn_and_say.field-0.0 c.args.cluster.now.next_epoch c.batches.cluster.next_epoch (length c.in-Ok.batch.fresh) w.bytes before after a1 n1 c.batches.invariant.says c.batches.invariant.disks w.low c.batches.invariant.later later
          c.in_err-turn_and_say.ensures.counts;
      serves = w.serves;
    })

pub returns-then-count-bounds : goal.returns-then-count-bounds
returns-then-count-bounds g c =
    let m0 : SourceMoment = source_moment g.S.Source c.args.input.now in
    let m1 : SourceMoment = source_moment g.S.Source c.batches.input in
    let m2 : SourceMoment = source_moment g.S.Source c.read_batch.new.source in
    let r = c.in-Ok.ensures.batch in
    let a0 : Around = around g.N.Net g.P.Power c.args.net.now c.args.power.now in
    let a1 : Around = around g.N.Net g.P.Power c.batches.net c.batches.power in
    let a2 : Around = around g.N.Net g.P.Power c.turn_and_say.new.net c.turn_and_say.new.power in
    let later = c.turn_and_say.ensures.later in
    let adds = spare_then a0 a1 a2 c.batches.invariant.later later in
    let short : length c.in-Ok.batch.answers.items < c.args.bounds.size = omega (arith, c.len-count.ensures, c.if-count-bounds.true) in
    let w = finished_last g.H.Host c.args.cluster.now.next_epoch _ c.args.bounds c.batches.reader c.read_batch.new.reader m0 m1 m2 c.args.cluster.now c.batches.cluster c.args.host.now c.batches.host c.batches.invariant.running g.met.H.Host.seen_now
    c.in-Ok.batch r (spare a1 a2) (spare a0 a2) c.turn_and_say.result c.turn_and_say.new.cluster c.turn_and_say.new.host adds c.in_ok-turn_and_say.was c.turn_and_say.ensures.answers short (omega (arith, c.len-count.ensures, c.if-count-eq0.false)) in
    record { bytes = w.bytes; gives = w.gives; later = later_then a0 a1 a2 c.batches.invariant.later later; cause = c.in-Ok.ensures.end c.batches.invariant.end (r.ends short).0; serves = w.serves }

pub batches-preserved : goal.batches-preserved
batches-preserved g c =
    let m0 : SourceMoment = source_moment g.S.Source c.args.input.now in
    let m1 : SourceMoment = source_moment g.S.Source c.batches.input in
    let m2 : SourceMoment = source_moment g.S.Source c.read_batch.new.source in
    let r = c.in-Ok.ensures.batch in
    let a0 : Around = around g.N.Net g.P.Power c.args.net.now c.args.power.now in
    let a1 : Around = around g.N.Net g.P.Power c.batches.net c.batches.power in
    let a2 : Around = around g.N.Net g.P.Power c.turn_and_say.new.net c.turn_and_say.new.power in
    let later = c.turn_and_say.ensures.later in
    let adds = spare_then a0 a1 a2 c.batches.invariant.later later in
    let full : c.args.bounds.size ≤ length c.in-Ok.batch.answers.items = omega (arith, c.len-count.ensures, c.if-count-bounds.false) in
    let counts = c.in_ok-turn_and_say.ensures.counts in
    record {
      running = running_more g.H.Host c.args.cluster.now.next_epoch _ c.args.bounds c.batches.reader c.read_batch.new.reader m0 m1 m2 c.args.cluster.now c.batches.cluster c.args.host.now c.batches.host c.batches.invariant.running g.met.H.Host.seen_now
          c.in-Ok.batch r (spare a1 a2) (spare a0 a2) c.turn_and_say.result c.turn_and_say.new.cluster c.turn_and_say.new.host adds c.in_ok-turn_and_say.was c.turn_and_say.ensures.answers full (omega (arith, c.len-count.ensures, c.if-count-eq0.false))
          c.in-Ok.ensures.given c.in_ok-turn_and_say.ensures.next;
      later = later_then a0 a1 a2 c.batches.invariant.later later;
      within = c.in-Ok.ensures.within;
      end = c.in-Ok.ensures.end c.batches.invariant.end;
      sound = c.in_ok-turn_and_say.ensures.sound;
      room = c.in_ok-turn_and_say.ensures.few;
      stand = c.in_ok-turn_and_say.ensures.stand;
      reads = c.in-Ok.ensures.counts ∙ c.batches.invariant.reads;
      says = (λ i. (counts i).say) ∙ c.batches.invariant.says;
      disks = (λ i. (counts i).disk) ∙ c.batches.invariant.disks;
    }
