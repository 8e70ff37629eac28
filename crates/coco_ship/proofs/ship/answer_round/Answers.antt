use Rattle.std.proofs.Common.{arith}
use Rattle.std.specs.List.{All, Contains}
use Rattle.std.proofs.lemmas.Result.{on_ok_weaker}
use Rattle.coco_ship.specs.Going.{Answered}
use Rattle.coco_ship.specs.Shipping.{news}
use Rattle.coco_ship.proofs.ExchangeLemmas.{ships_none}
use Rattle.coco_ship.proofs.RoundLemmas.{answer_going, answer_written, answered_after, answers_inside, answers_phase, done_answered, done_by, fit_lines, on_ok_two, passes_none, unless_then}
use Rattle.coco_ship.proofs.ThereLemmas.{answered_exact, answered_right}
use Rattle.coco_ship.proofs.ship.answer_round.Goals as goal

pub answers-requires-clause-ring : goal.answers-requires-clause-ring
answers-requires-clause-ring g c = c.requires.fit.is_ring

pub answers-requires-clause-lines : goal.answers-requires-clause-lines
answers-requires-clause-lines g c = c.requires.fit.line_count

pub carry-requires-clause-fit : goal.carry-requires-clause-fit
carry-requires-clause-fit g c = fit_lines c.requires.fit c.answers.auto.lines

pub carry-requires-clause-inside : goal.carry-requires-clause-inside
carry-requires-clause-inside g c = answers_inside c.args.ring c.args.epoch c.args.lines.now c.in_ok-letters.letters.items c.requires.fit.is_ring c.in_ok-letters.ensures.letters

pub carry-requires-clause-phase : goal.carry-requires-clause-phase
carry-requires-clause-phase g c = answers_phase c.args.ring c.args.epoch c.args.lines.now c.in_ok-letters.letters.items c.in_ok-letters.ensures.letters

pub returns-in_err-letters-clause-passes : goal.returns-in_err-letters-clause-passes
returns-in_err-letters-clause-passes g c = passes_none c.args.net.now (fit_lines c.requires.fit c.answers.auto.lines)

pub returns-in_err-letters-clause-ships : goal.returns-in_err-letters-clause-ships
returns-in_err-letters-clause-ships g c pieces going = ships_none c.args.net.now (fit_lines c.requires.fit c.answers.auto.lines) going

pub returns-clause-ships : goal.returns-clause-ships
returns-clause-ships g c pieces going =
    let ring = c.args.ring in
    let said = c.in_ok-letters.ensures in
    let fit = c.requires.fit in
    let sent = g.N.Net.sent c.args.net.now in
    let given = g.N.Net.given c.args.net.now in
    let after = g.N.Net.given c.carry.new.net in
    record {
      passes = c.carry.ensures.passes;
      written = answer_written ring c.args.epoch pieces (news given after) sent c.in_ok-letters.letters.items c.args.lines.now c.answers.new.lines c.args.copies.now c.carry.new.copies
          fit.is_ring fit.line_count fit.table_count said.lines said.letters going c.carry.ensures.were_sent c.carry.ensures.passes.gains;
      right = answered_right ring c.args.epoch pieces sent c.in_ok-letters.letters.items (g.N.Net.sent c.carry.new.net) given after c.args.lines.now c.args.copies.now fit.table_count said.letters going c.carry.ensures.only;
    }

pub returns-clause-goes : goal.returns-clause-goes
returns-clause-goes g c =
    let ring = c.args.ring in
    let letters = c.in_ok-letters.letters.items in
    let said = c.in_ok-letters.ensures in
    let fit = c.requires.fit in
    let mid = fit_lines c.requires.fit c.answers.auto.lines in
    let tables = c.carry.ensures.passes.fit.table_count in
    let sent = g.N.Net.sent c.args.net.now in
    let given = g.N.Net.given c.args.net.now in
    let after = g.N.Net.given c.carry.new.net in
    on_ok_two c.carry.result
    (λ is heard pieces shippable going. record {
      going = answer_going ring c.args.epoch pieces (news given after) sent letters (g.N.Net.sent c.carry.new.net) c.args.lines.now c.args.copies.now c.answers.new.lines c.carry.new.lines c.carry.new.copies fit.is_ring shippable
          fit.line_count fit.table_count mid.line_count tables said.lines said.letters going is c.carry.ensures.were_sent heard c.carry.ensures.passes.gains;
      exact = answered_exact ring c.args.epoch pieces sent letters given after c.args.lines.now c.args.copies.now c.answers.new.lines c.carry.new.lines c.carry.new.copies fit.is_ring shippable
          fit.line_count fit.table_count mid.line_count tables said.lines said.letters going c.carry.ensures.were_sent heard;
      done = done_answered ring c.args.epoch (news given after) c.args.lines.now c.args.copies.now c.answers.new.lines c.carry.new.lines c.carry.new.copies said.lines
          (done_by ring c.args.epoch (news given after) c.answers.new.lines c.args.copies.now c.carry.new.lines c.carry.new.copies fit.is_ring (omega arith) heard);
    })
    c.carry.ensures.sent c.carry.ensures.heard

pub returns-clause-done : goal.returns-clause-done
returns-clause-done g c =
    let ring = c.args.ring in
    let posts = news (g.N.Net.given c.args.net.now) (g.N.Net.given c.carry.new.net) in
    on_ok_weaker c.carry.result (λ heard. done_answered ring c.args.epoch posts c.args.lines.now c.args.copies.now c.answers.new.lines c.carry.new.lines c.carry.new.copies c.in_ok-letters.ensures.lines
    (done_by ring c.args.epoch posts c.answers.new.lines c.args.copies.now c.carry.new.lines c.carry.new.copies c.requires.fit.is_ring (omega arith) heard)) c.carry.ensures.heard

pub returns-clause-answered : goal.returns-clause-answered
returns-clause-answered g c =
    let ring = c.args.ring in
    let letters = c.in_ok-letters.letters.items in
    let posts = news (g.N.Net.given c.args.net.now) (g.N.Net.given c.carry.new.net) in
    let fit = c.requires.fit in
    on_ok_two c.carry.result
    (λ heard arrived. unless_then (g.N.Net.faults c.args.net.now) (g.N.Net.faults c.carry.new.net) (All (Contains posts) letters) (Answered ring c.args.lines.now c.args.copies.now c.carry.new.lines)
    (λ came pieces fits told. answered_after ring c.args.epoch pieces posts letters c.args.lines.now c.args.copies.now c.answers.new.lines c.carry.new.lines c.carry.new.copies fit.line_count fit.table_count c.carry.ensures.passes.fit.table_count
    c.in_ok-letters.ensures.lines c.in_ok-letters.ensures.letters came fits told heard) arrived)
    c.carry.ensures.heard c.carry.ensures.came
