use Rattle.std.proofs.Common.{List, [], refl, subst, sym}
use Rattle.std.proofs.lemmas.Result.{on_ok_weaker}
use Rattle.coco_ship.specs.declared.line.Line.{Line}
use Rattle.coco_ship.specs.Lines.{AreFirst}
use Rattle.coco_ship.specs.Shipping.{news}
use Rattle.coco_ship.proofs.RoundLemmas.{gain_only, going_first, news_own, none_given, none_phase}
use Rattle.coco_ship.proofs.TakeLemmas.{brings_none}
use Rattle.coco_ship.proofs.ThereLemmas.{exact_first, right_none_all}
use Rattle.coco_ship.proofs.ship.ship_epoch.Goals as goal

pub exchanges-requires : goal.exchanges-requires
exchanges-requires g c =
    let first : AreFirst c.args.ring c.args.pieces.now c.deref_mut.result.now c.args.copies.now = subst (λ (ls : List Line). AreFirst c.args.ring c.args.pieces.now ls c.args.copies.now) (sym c.deref_mut.ensures.value) c.in_ok-lines.ensures in
    record {
      fit = record { is_ring = c.requires.ring; line_count = first.count; table_count = c.requires.tables.count; begun = c.requires.tables.begun };
      pieces = c.requires.pieces;
      going = going_first c.args.ring c.args.epoch c.args.pieces.now (g.N.Net.sent c.args.net.now) c.deref_mut.result.now c.args.copies.now c.requires.tables c.requires.fresh first.fit;
      waiting = first.waiting;
    }

pub returns-clause-whole : goal.returns-clause-whole
returns-clause-whole g c = on_ok_weaker c.exchanges.result (λ ended. ended.whole) c.exchanges.ensures.ended

pub returns-clause-answered : goal.returns-clause-answered
returns-clause-answered g c = on_ok_weaker c.exchanges.result (λ ended. ended.answered) c.exchanges.ensures.ended

pub returns-clause-gains : goal.returns-clause-gains
returns-clause-gains g c = gain_only c.args.ring c.args.epoch (news (g.N.Net.given c.args.net.now) (g.N.Net.given c.exchanges.new.net)) c.args.copies.now c.exchanges.new.copies c.exchanges.ensures.ships.passes.gains

pub returns-clause-given : goal.returns-clause-given
returns-clause-given g c = c.exchanges.ensures.ships.passes.gives

pub returns-clause-sent : goal.returns-clause-sent
returns-clause-sent g c = c.exchanges.ensures.ships.passes.sends

pub returns-clause-phase : goal.returns-clause-phase
returns-clause-phase g c = c.exchanges.ensures.ships.passes.phase

pub returns-clause-were_sent : goal.returns-clause-were_sent
returns-clause-were_sent g c = c.exchanges.ensures.ships.passes.were_sent

pub returns-in_err-lines-clause-were_sent : goal.returns-in_err-lines-clause-were_sent
returns-in_err-lines-clause-were_sent g c = none_given (g.N.Net.sent c.args.net.now) (g.N.Net.given c.args.net.now) (g.N.Net.given c.args.net.now) refl

pub returns-in_err-lines-clause-gains : goal.returns-in_err-lines-clause-gains
returns-in_err-lines-clause-gains g c =
    let posts = news (g.N.Net.given c.args.net.now) (g.N.Net.given c.args.net.now) in
    gain_only c.args.ring c.args.epoch posts c.args.copies.now c.args.copies.now (brings_none c.args.ring c.args.epoch posts c.args.copies.now)

pub returns-in_err-lines-clause-given : goal.returns-in_err-lines-clause-given
returns-in_err-lines-clause-given g c = news_own (g.N.Net.given c.args.net.now)

pub returns-in_err-lines-clause-sent : goal.returns-in_err-lines-clause-sent
returns-in_err-lines-clause-sent g c = news_own (g.N.Net.sent c.args.net.now)

pub returns-in_err-lines-clause-phase : goal.returns-in_err-lines-clause-phase
returns-in_err-lines-clause-phase g c = none_phase c.args.epoch (g.N.Net.sent c.args.net.now)

pub returns-clause-tables : goal.returns-clause-tables
returns-clause-tables g c = let fit = c.exchanges.ensures.ships.passes.fit in record { count = fit.table_count; begun = fit.begun; written = c.exchanges.ensures.ships.written }

pub returns-in_err-lines-clause-tables : goal.returns-in_err-lines-clause-tables
returns-in_err-lines-clause-tables g c = c.requires.tables

pub returns-clause-there : goal.returns-clause-there
returns-clause-there g c =
    let first : AreFirst c.args.ring c.args.pieces.now c.deref_mut.result.now c.args.copies.now = subst (λ (ls : List Line). AreFirst c.args.ring c.args.pieces.now ls c.args.copies.now) (sym c.deref_mut.ensures.value) c.in_ok-lines.ensures in
    on_ok_weaker c.exchanges.result (λ ended. ended.there c.args.copies.now [] (exact_first c.args.epoch first)) c.exchanges.ensures.ended

pub returns-clause-right : goal.returns-clause-right
returns-clause-right g c =
    let first : AreFirst c.args.ring c.args.pieces.now c.deref_mut.result.now c.args.copies.now = subst (λ (ls : List Line). AreFirst c.args.ring c.args.pieces.now ls c.args.copies.now) (sym c.deref_mut.ensures.value) c.in_ok-lines.ensures in
    c.exchanges.ensures.ships.right c.args.copies.now [] c.requires.tables.count (exact_first c.args.epoch first)

pub returns-in_err-lines-clause-right : goal.returns-in_err-lines-clause-right
returns-in_err-lines-clause-right g c =
    right_none_all c.args.ring c.args.epoch c.args.pieces.now c.args.copies.now (news (g.N.Net.given c.args.net.now) (g.N.Net.given c.args.net.now)) (g.N.Net.sent c.args.net.now)

pub returns-clause-faults : goal.returns-clause-faults
returns-clause-faults g c = c.exchanges.ensures.ships.passes.faults_rise

pub returns-clause-seed : goal.returns-clause-seed
returns-clause-seed g c = c.exchanges.ensures.ships.passes.seed_stays
