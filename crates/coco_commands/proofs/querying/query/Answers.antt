use Rattle.std.proofs.Common.{◌∙◌, Err, inl, inr, refl, ap, arith}
use Rattle.coco_asks.specs.Answering.{Streams}
use Rattle.coco_store.specs.Contents.{history_of}
use Rattle.coco_ast.specs.History.{map_of, up_to}
use Rattle.coco_commands.proofs.AskingLemmas.{cause_since, may_be_asked, says_of, unasked}
use Rattle.coco_lines.specs.Reads.{source_moment}
use Rattle.coco_commands.proofs.querying.query.Goals as goal

pub answer_asks-requires-clause-some : goal.answer_asks-requires-clause-some
answer_asks-requires-clause-some g c = (let some = c.in-Ok.ensures.sound.limits.partitions.0 in let count = c.in-Ok-tables_at.ensures.count in omega (arith, some, count))

pub returns-in-Ok-tables_at : goal.returns-in-Ok-tables_at
returns-in-Ok-tables_at g c = λ around.
    let asks = c.answer_asks.ensures.answers in
    let read = c.in-Ok.ensures.read in
    let tables = c.in-Ok-tables_at.ensures in
    let after : Streams = record {
      source = source_moment g.S.Source c.answer_asks.new.input;
      source_faults = g.S.Source.faults c.answer_asks.new.input;
      say_faults = g.H.Host.say_faults c.answer_asks.new.host;
    } in
    inr (inr (record {
      opened = c.recover_whole.new.host;
      opening = read;
      holds = λ files told. (let opening = c.in-Ok.ensures.ok files told in (opening.contents, opening.holds));
      may = λ files d told holds. may_be_asked c.ranges_are_histories.ensures d c.in-Ok.store ((c.in-Ok.ensures.ok files told).has d holds) c.args.bounds.epoch tables.within;
      bytes = asks.bytes;
      gives = asks.gives;
      asked = c.answer_asks.result;
      ends = c.ending_of_asking.ensures;
      cause = cause_since asks.bytes (source_moment g.S.Source c.args.input.now) (g.S.Source.faults c.args.input.now)
          (g.H.Host.say_faults c.args.host.now) (g.H.Host.say_faults c.recover_whole.new.host) after c.answer_asks.result c.in-Ok.ensures.read.stream asks.cause;
      disk = c.answer_asks.ensures.disk ∙ c.in-Ok.ensures.counts;
      around = refl;
      same = asks.same ∙ read.same;
      crash = asks.crash;
      sees = asks.sees;
      says = λ files d told good. (let has = (c.in-Ok.ensures.ok files told).has d good.holds in
          let m = map_of d.setting.tree (up_to c.args.bounds.epoch (history_of d)) in
          says_of c.in-Ok-tables_at.procs d.setting.tree m c.args.bounds.epoch asks.bytes (g.H.Host.said c.recover_whole.new.host) (g.H.Host.said c.args.host.now) (g.H.Host.said c.answer_asks.new.host) c.answer_asks.result
          (tables.procs ∙ has.procs) read.quiet (asks.says m (tables.tables files d good has)));
    }))

pub returns-in-Err-tables_at : goal.returns-in-Err-tables_at
returns-in-Err-tables_at g c = λ around.
    inr (inl (record {
      read = c.in-Ok.ensures.read;
      holds = λ files told. (let opening = c.in-Ok.ensures.ok files told in (opening.contents, opening.holds));
      source = refl;
      reading = refl;
      stream = c.in-Ok.ensures.read.stream;
      disk = c.in-Ok.ensures.counts;
      around = refl;
      cause = unasked c.ranges_are_histories.ensures c.in-Ok.store c.args.bounds.epoch (g.H.Host.reads c.args.host.now) (λ files d told holds. (c.in-Ok.ensures.ok files told).has d holds)
          c.in-Err-tables_at.fault c.ending_of_tables.result c.ending_of_tables.ensures (λ first last is. c.in-Err-tables_at.ensures.outside first last (ap Err is));
    }))
