use Rattle.std.proofs.Common.{◌≡◌, ◌<◌, ℕ, arith, inl, refl}
use Rattle.coco_ship.specs.Exchanges.{AreAsked}
use Rattle.coco_ship.proofs.ExchangeLemmas.{ended_now, exchanges_none, exchanges_then, goes_none, goes_then, ships_none, ships_then, silent_now}
use Rattle.coco_ship.proofs.ship.exchanges.Goals as goal

pub loop-exchange-init : goal.loop-exchange-init
loop-exchange-init g c = record {
  ships = ships_none c.args.net.now c.requires.fit c.requires.going;
  goes = goes_none c.args.net.now c.requires.going;
  exchanges = inl (exchanges_none (AreAsked c.args.ring c.args.epoch c.args.lines.now) (g.N.Net.sent c.args.net.now) (g.N.Net.faults c.args.net.now));
  alone = λ none. refl;
}

pub silent-requires-clause-ring : goal.silent-requires-clause-ring
silent-requires-clause-ring g c = c.requires.fit.is_ring

pub silent-requires-clause-lines : goal.silent-requires-clause-lines
silent-requires-clause-lines g c = c.loop-exchange.invariant.ships.passes.fit.line_count

pub exchange-requires-clause-fit : goal.exchange-requires-clause-fit
exchange-requires-clause-fit g c = c.loop-exchange.invariant.ships.passes.fit

pub exchange-requires-clause-going : goal.exchange-requires-clause-going
exchange-requires-clause-going g c = c.loop-exchange.invariant.goes.going

no_copy : (j n : ℕ) → j < n → n ≡ 0 → ⊥
no_copy j n less none = omega arith

pub loop-exchange-preserved : goal.loop-exchange-preserved
loop-exchange-preserved g c =
    let before = c.loop-exchange.invariant in
    let more = c.in_ok-exchange-in-Some.ensures in
    let waited = c.in-Some.ensures.0 in
    record {
      ships = ships_then before.ships before.goes c.exchange.ensures.ships;
      goes = goes_then before.ships before.goes c.exchange.ensures.ships more.goes;
      exchanges = exchanges_then c.loop-exchange._exchange before.ships c.exchange.ensures.ships more.goes more.asked more.faults waited before.exchanges;
      alone = λ none. absurd (no_copy waited.j c.args.ring.copies waited.is_copy.copy none);
    }

pub returns-in_err-exchange-in-Some-clause-ships : goal.returns-in_err-exchange-in-Some-clause-ships
returns-in_err-exchange-in-Some-clause-ships g c = ships_then c.loop-exchange.invariant.ships c.loop-exchange.invariant.goes c.exchange.ensures.ships

pub returns-in_err-exchange-in-Some-clause-alone : goal.returns-in_err-exchange-in-Some-clause-alone
returns-in_err-exchange-in-Some-clause-alone g c = let waited = c.in-Some.ensures.0 in λ none. absurd (no_copy waited.j c.args.ring.copies waited.is_copy.copy none)

pub returns-in-None-clause-ended : goal.returns-in-None-clause-ended
returns-in-None-clause-ended g c = ended_now c.requires.pieces c.requires.fit c.requires.waiting c.loop-exchange.invariant.ships c.loop-exchange.invariant.goes c.in-None.ensures

pub returns-in-None-silent-clause-ended : goal.returns-in-None-silent-clause-ended
returns-in-None-silent-clause-ended g c = ended_now c.requires.pieces c.requires.fit c.requires.waiting c.loop-exchange.invariant.ships c.loop-exchange.invariant.goes c.in-None-silent.ensures

pub returns-in-Some-silent-clause-silent : goal.returns-in-Some-silent-clause-silent
returns-in-Some-silent-clause-silent g c =
    let last : c.loop-exchange._exchange ≡ 16 = omega arith in
    let waited = c.in-Some-silent.ensures in
    silent_now c.loop-exchange._exchange last c.requires.fit c.requires.waiting c.loop-exchange.invariant.ships c.loop-exchange.invariant.goes c.loop-exchange.invariant.exchanges waited.0 waited.1
