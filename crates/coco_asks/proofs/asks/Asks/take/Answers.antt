use Rattle.std.proofs.Common.{Err, ap, refl}
use Rattle.coco_asks.proofs.SortLemmas.{took_error, took_request}
use Rattle.coco_asks.proofs.asks.Asks.take.Goals as goal

pub returns-in-Ok-clause-sorted : goal.returns-in-Ok-clause-sorted
returns-in-Ok-clause-sorted c = λ before sorted.
    took_request c.args.procs.now before c.args.line c.args.self.now.refusals.items c.ask.new.self.refusals.items c.args.self.now.requests.items c.ask.new.self.requests.items c.ask.result
    c.in-Ok.request c.in-Ok.ensures.ok c.ask.ensures.refusals c.ask.ensures.requests sorted

pub returns-in-Err-Line-clause-sorted : goal.returns-in-Err-Line-clause-sorted
returns-in-Err-Line-clause-sorted c = λ before sorted.
    took_error c.args.procs.now before c.args.line c.args.self.now.refusals.items c.refuse.new.self.refusals.items c.args.self.now.requests.items c.refuse.new.self.requests.items c.refuse.result
    (record { error = c.in-Err-Line.error; number = c.args.line.number }) (λ line is. c.in-Err-Line.ensures.line line c.in-Err-Line.error is (ap Err c.in-Err-Line.field-0-is)) refl
    c.refuse.ensures.refusals c.refuse.ensures.requests sorted
