use Rattle.std.proofs.Common.{arith}
use Rattle.std.specs.List.{All, Contains}
use Rattle.std.proofs.lemmas.Result.{on_ok_weaker}
use Rattle.coco_ship.specs.Going.{AreTold}
use Rattle.coco_ship.specs.Shipping.{news}
use Rattle.coco_ship.proofs.ExchangeLemmas.{asked_now, ships_none}
use Rattle.coco_ship.proofs.RoundLemmas.{ask_going, ask_written, asks_inside, asks_phase, done_by, on_ok_two, told_after, unless_then}
use Rattle.coco_ship.proofs.ThereLemmas.{asked_exact, asked_right}
use Rattle.coco_ship.proofs.ship.ask_round.Goals as goal

pub asks-requires-clause-ring : goal.asks-requires-clause-ring
asks-requires-clause-ring g c = c.requires.fit.is_ring

pub asks-requires-clause-lines : goal.asks-requires-clause-lines
asks-requires-clause-lines g c = c.requires.fit.line_count

pub carry-requires-clause-inside : goal.carry-requires-clause-inside
carry-requires-clause-inside g c = asks_inside c.args.ring c.args.epoch c.args.pieces.now c.args.lines.now c.in_ok-letters.letters.items c.requires.fit.is_ring c.in_ok-letters.ensures

pub carry-requires-clause-phase : goal.carry-requires-clause-phase
carry-requires-clause-phase g c = asks_phase c.args.ring c.args.epoch c.args.pieces.now c.args.lines.now c.in_ok-letters.letters.items c.in_ok-letters.ensures

pub returns-in_err-letters-clause-ships : goal.returns-in_err-letters-clause-ships
returns-in_err-letters-clause-ships g c = ships_none c.args.net.now c.requires.fit c.requires.going

pub returns-clause-ships : goal.returns-clause-ships
returns-clause-ships g c =
    let ring = c.args.ring in
    let pieces = c.args.pieces.now in
    let sent = g.N.Net.sent c.args.net.now in
    let given = g.N.Net.given c.args.net.now in
    let after = g.N.Net.given c.carry.new.net in
    record {
      passes = c.carry.ensures.passes;
      written = ask_written ring c.args.epoch pieces (news given after) sent c.in_ok-letters.letters.items c.args.lines.now c.args.copies.now c.carry.new.copies c.requires.fit.table_count c.in_ok-letters.ensures c.requires.going c.carry.ensures.were_sent c.carry.ensures.passes.gains;
      right = asked_right ring c.args.epoch pieces sent c.in_ok-letters.letters.items (g.N.Net.sent c.carry.new.net) given after c.args.lines.now c.args.copies.now c.requires.fit.table_count c.in_ok-letters.ensures c.requires.going c.carry.ensures.only;
    }

pub returns-clause-goes : goal.returns-clause-goes
returns-clause-goes g c =
    let ring = c.args.ring in
    let pieces = c.args.pieces.now in
    let letters = c.in_ok-letters.letters.items in
    let sent = g.N.Net.sent c.args.net.now in
    let given = g.N.Net.given c.args.net.now in
    let after = g.N.Net.given c.carry.new.net in
    let fit = c.requires.fit in
    let tables = c.carry.ensures.passes.fit.table_count in
    on_ok_two c.carry.result
    (λ is heard. record {
      going = ask_going ring c.args.epoch pieces (news given after) sent letters (g.N.Net.sent c.carry.new.net) c.args.lines.now c.args.copies.now c.carry.new.lines c.carry.new.copies c.requires.pieces
          fit.line_count fit.table_count tables c.in_ok-letters.ensures c.requires.going is c.carry.ensures.were_sent heard c.carry.ensures.passes.gains;
      exact = asked_exact ring c.args.epoch pieces sent letters given after c.args.lines.now c.args.copies.now c.carry.new.lines c.carry.new.copies c.requires.pieces
          fit.line_count fit.table_count tables c.in_ok-letters.ensures c.requires.going c.carry.ensures.were_sent heard;
      done = done_by ring c.args.epoch (news given after) c.args.lines.now c.args.copies.now c.carry.new.lines c.carry.new.copies fit.is_ring (omega arith) heard;
    })
    c.carry.ensures.sent c.carry.ensures.heard

pub returns-clause-told : goal.returns-clause-told
returns-clause-told g c =
    let ring = c.args.ring in
    let letters = c.in_ok-letters.letters.items in
    let posts = news (g.N.Net.given c.args.net.now) (g.N.Net.given c.carry.new.net) in
    let fit = c.requires.fit in
    on_ok_two c.carry.result
    (λ heard arrived. unless_then (g.N.Net.faults c.args.net.now) (g.N.Net.faults c.carry.new.net) (All (Contains posts) letters) (AreTold ring c.args.pieces.now c.carry.new.lines)
    (λ came. told_after ring c.args.epoch c.args.pieces.now posts letters c.args.lines.now c.args.copies.now c.carry.new.lines c.carry.new.copies fit.line_count fit.table_count c.carry.ensures.passes.fit.table_count c.in_ok-letters.ensures came c.requires.going.lines_fit heard) arrived)
    c.carry.ensures.heard c.carry.ensures.came

pub returns-clause-asked : goal.returns-clause-asked
returns-clause-asked g c =
    on_ok_weaker c.carry.result
    (λ is. asked_now c.args.ring c.args.epoch c.args.pieces.now c.args.lines.now (g.N.Net.sent c.args.net.now) c.in_ok-letters.letters.items (g.N.Net.sent c.carry.new.net) c.in_ok-letters.ensures is)
    c.carry.ensures.sent
