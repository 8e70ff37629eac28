use Rattle.std.proofs.Common.{ℕ}
use Rattle.std.proofs.lemmas.Result.{on_ok_weaker}
use Rattle.coco_ship.specs.Going.{Answered, AreTold, HasAnswered}
use Rattle.coco_ship.proofs.ExchangeLemmas.{asked_more_sent, goes_then, ships_then}
use Rattle.coco_ship.proofs.RoundLemmas.{exchange_faults}
use Rattle.coco_ship.proofs.ship.exchange.Goals as goal

pub answer_round-requires : goal.answer_round-requires
answer_round-requires g c = record { fit = c.ask_round.ensures.ships.passes.fit }

pub returns-clause-ships : goal.returns-clause-ships
returns-clause-ships g c = ships_then c.ask_round.ensures.ships c.in_ok-ask_round.ensures.goes (c.answer_round.ensures.ships c.args.pieces.now c.in_ok-ask_round.ensures.goes.going)

pub returns-clause-goes : goal.returns-clause-goes
returns-clause-goes g c =
    let asked = c.in_ok-ask_round.ensures.goes in
    on_ok_weaker c.answer_round.result
    (λ goes. goes_then c.ask_round.ensures.ships asked (c.answer_round.ensures.ships c.args.pieces.now asked.going) (goes c.args.pieces.now c.requires.pieces asked.going))
    c.answer_round.ensures.goes

pub returns-clause-faults : goal.returns-clause-faults
returns-clause-faults g c =
    let ring = c.args.ring in
    on_ok_weaker c.answer_round.result (λ second. exchange_faults (g.N.Net.faults c.args.net.now) (g.N.Net.faults c.ask_round.new.net) (g.N.Net.faults c.answer_round.new.net) (AreTold ring c.args.pieces.now c.ask_round.new.lines)
    (Answered ring c.ask_round.new.lines c.ask_round.new.copies c.answer_round.new.lines) ((node : ℕ) → HasAnswered ring c.answer_round.new.lines node)
    (λ told all. all c.args.pieces.now c.in_ok-ask_round.ensures.goes.going.lines_fit told) c.in_ok-ask_round.ensures.told second) c.answer_round.ensures.answered

pub returns-clause-asked : goal.returns-clause-asked
returns-clause-asked g c =
    on_ok_weaker c.answer_round.result
    (λ _. asked_more_sent c.args.ring c.args.epoch c.args.lines.now (g.N.Net.sent c.args.net.now) (g.N.Net.sent c.ask_round.new.net) (g.N.Net.sent c.answer_round.new.net) c.ask_round.ensures.ships.passes.sends c.answer_round.ensures.passes.sends c.in_ok-ask_round.ensures.asked)
    c.answer_round.ensures.goes
