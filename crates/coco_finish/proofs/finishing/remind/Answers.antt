use Rattle.std.proofs.Common.{inl, sym, ◌∙◌, arith}
use Rattle.coco_chief.specs.Shown.{chief_of}
use Rattle.coco_finish.proofs.ExchangeLemmas.{asks_later, lost_all, lost_more}
use Rattle.coco_vote.proofs.LetterLemmas.{letters_then, letters_same}
use Rattle.coco_finish.proofs.PhaseLemmas.{tables_same, tables_then, may_still, finished_same, finished_then}
use Rattle.coco_finish.proofs.finishing.remind.Goals as goal

pub loop-exchange-init : goal.loop-exchange-init
loop-exchange-init g c = record {
  may = c.requires.may;
  done = finished_same c.args.epoch c.args.cores.now (chief_of c.args.chief.now) c.args.tables.now c.args.net.now c.requires.may.can;
  keep = tables_same c.args.tables.now c.requires.may.whole;
  asks = λ more. absurd (omega (arith, more));
  lost = inl (omega arith);
  letters = letters_same c.args.net.now;
  sent = c.requires.sent;
}

pub remind_and_exchange-requires-clause-may : goal.remind_and_exchange-requires-clause-may
remind_and_exchange-requires-clause-may g c = c.loop-exchange.invariant.may

pub loop-exchange-preserved : goal.loop-exchange-preserved
loop-exchange-preserved g c =
    let before = c.loop-exchange.invariant in
    let start = c.args in
    let now = c.loop-exchange in
    let after = c.remind_and_exchange.new in
    let did = c.in_ok-remind_and_exchange.ensures in
    record {
      may = may_still c.remind_and_exchange.auto.cores before.may did.done.can c.remind_and_exchange.ensures.keep;
      done = finished_then before.done did.done;
      keep = tables_then before.keep c.remind_and_exchange.ensures.keep;
      asks = λ more. asks_later c.args.epoch (chief_of now.chief) (chief_of after.chief) (g.N.Net.sent start.net.now) (g.N.Net.sent now.net) (g.N.Net.sent after.net) before.done.said did.asks did.done.hears.nodes did.done.hears.stays;
      lost = lost_more c.loop-exchange._exchange (g.N.Net.faults start.net.now) (g.N.Net.faults now.net) (g.N.Net.faults after.net) (chief_of now.chief) (chief_of after.chief) c.if-have_all_finished.ensures before.lost did.ends;
      letters = letters_then before.letters c.remind_and_exchange.ensures.letters;
      sent = did.sent;
    }

pub returns-in_err-remind_and_exchange-clause-keep : goal.returns-in_err-remind_and_exchange-clause-keep
returns-in_err-remind_and_exchange-clause-keep g c = tables_then c.loop-exchange.invariant.keep c.remind_and_exchange.ensures.keep

pub have_all_finished-requires : goal.have_all_finished-requires
have_all_finished-requires g c = c.loop-exchange.invariant.done.hears.nodes ∙ c.requires.nodes

pub remind_and_exchange-requires-clause-nodes : goal.remind_and_exchange-requires-clause-nodes
remind_and_exchange-requires-clause-nodes g c = c.loop-exchange.invariant.done.hears.nodes ∙ c.requires.nodes ∙ sym c.loop-exchange.auto.cores

pub remind_and_exchange-requires-clause-last : goal.remind_and_exchange-requires-clause-last
remind_and_exchange-requires-clause-last g c = c.loop-exchange.invariant.done.hears.last ∙ c.requires.last

pub returns-clause-all : goal.returns-clause-all
returns-clause-all g c =
    lost_all c.have_all_finished-2.result c.args.epoch c.loop-exchange._exchange (chief_of c.loop-exchange.chief) (g.N.Net.sent c.args.net.now) (g.N.Net.sent c.loop-exchange.net) (g.N.Net.faults c.args.net.now) (g.N.Net.faults c.loop-exchange.net)
    c.loop-exchange-test.false c.loop-exchange.invariant.lost c.loop-exchange.invariant.asks c.have_all_finished-2.ensures

pub returns-in_err-remind_and_exchange-clause-letters : goal.returns-in_err-remind_and_exchange-clause-letters
returns-in_err-remind_and_exchange-clause-letters g c =
    letters_then c.loop-exchange.invariant.letters c.remind_and_exchange.ensures.letters
