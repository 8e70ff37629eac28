use Rattle.std.proofs.Common.{◌≡◌, refl, sym, subst, arith, true, Some, None, Ok, Err}
use Rattle.coco_read.proofs.Steps.{step_taken, step_refused, step_fault}
use Rattle.coco_read.specs.EntryRules.{IsStep}
use Rattle.coco_read.proofs.reading.read_next.Goals as goal

pub returns-in-Err-clause-step : goal.returns-in-Err-clause-step
returns-in-Err-clause-step g c files told way =
    let rules = g.R.Rules.rules (g.R.Rules.setting c.args.rules.now) in
    let reads = g.met.R.Rules.reads (g.R.Rules.setting c.args.rules.now) in
    let next = c.in-Err.ensures in
    step_fault rules reads c.args.entries.now c.next.new.self (g.R.Rules.taken c.args.rules.now) c.args.file files (Err c.in-Err.fault) c.requires next.of way
    (λ bodies reading. next.next files bodies told reading) (g.R.Rules.taken c.args.rules.now) c.in-Err.fault c.fault_in.result refl c.fault_in.ensures

pub returns-in-Some-clause-step : goal.returns-in-Some-clause-step
returns-in-Some-clause-step g c files told way =
    let rules = g.R.Rules.rules (g.R.Rules.setting c.args.rules.now) in
    let reads = g.met.R.Rules.reads (g.R.Rules.setting c.args.rules.now) in
    let got : c.next.result ≡ Ok true = grind arith in
    let some : c.take.result ≡ Ok (Some c.in-Some.at) = grind arith in
    step_refused rules reads c.args.entries.now c.next.new.self (g.R.Rules.taken c.args.rules.now) c.args.file files c.next.result c.requires c.next.ensures.of way
    (λ bodies reading. c.next.ensures.next files bodies told reading) (g.R.Rules.taken c.take.new.self) c.take.result c.body.result.now c.byte_of.result c.in-Some.at got c.body.ensures c.take.ensures.takes some c.byte_of.ensures

pub returns-in_default-clause-step : goal.returns-in_default-clause-step
returns-in_default-clause-step g c files told way =
    let rules = g.R.Rules.rules (g.R.Rules.setting c.args.rules.now) in
    let reads = g.met.R.Rules.reads (g.R.Rules.setting c.args.rules.now) in
    let got : c.next.result ≡ Ok true = grind arith in
    let none : c.take.result ≡ Ok None = grind arith in
    subst (λ b. IsStep rules (Ok b) c.next.new.self (g.R.Rules.taken c.take.new.self) (files c.args.file)) (sym c.if-goes_on.true)
    (step_taken rules reads c.args.entries.now c.next.new.self (g.R.Rules.taken c.args.rules.now) c.args.file files c.next.result c.requires c.next.ensures.of way
    (λ bodies reading. c.next.ensures.next files bodies told reading) (g.R.Rules.taken c.take.new.self) c.take.result c.body.result.now got c.body.ensures c.take.ensures.takes none)
