use Rattle.std.proofs.Common.{sym, ◌∙◌}
use Rattle.coco_chief.specs.Shown.{chief_of}
use Rattle.coco_finish.proofs.ExchangeLemmas.{all_or_silent, hears_then}
use Rattle.coco_vote.proofs.LetterLemmas.{letters_then}
use Rattle.coco_finish.proofs.PhaseLemmas.{tables_then, may_still, finished_then}
use Rattle.coco_finish.proofs.finishing.finish.Goals as goal

pub exchange-requires-clause-may : goal.exchange-requires-clause-may
exchange-requires-clause-may g c = record { few = c.requires.few; some = c.requires.some; whole = c.requires.whole; behind = c.requires.behind; can = c.requires.can }

pub remind-requires-clause-may : goal.remind-requires-clause-may
remind-requires-clause-may g c = may_still c.exchange.auto.cores (record { few = c.requires.few; some = c.requires.some; whole = c.requires.whole; behind = c.requires.behind; can = c.requires.can }) c.in_ok-exchange.ensures.done.can c.exchange.ensures.keep

pub returns-clause-done : goal.returns-clause-done
returns-clause-done g c = finished_then c.in_ok-exchange.ensures.done c.in_ok-all.ensures.done

pub returns-clause-keep : goal.returns-clause-keep
returns-clause-keep g c = tables_then c.exchange.ensures.keep c.remind.ensures.keep

pub returns-in_err-all-clause-keep : goal.returns-in_err-all-clause-keep
returns-in_err-all-clause-keep g c = tables_then c.exchange.ensures.keep c.remind.ensures.keep

pub remind-requires-clause-nodes : goal.remind-requires-clause-nodes
remind-requires-clause-nodes g c = c.in_ok-exchange.ensures.done.hears.nodes ∙ c.requires.nodes ∙ sym c.exchange.auto.cores

pub remind-requires-clause-last : goal.remind-requires-clause-last
remind-requires-clause-last g c = c.in_ok-exchange.ensures.done.hears.last ∙ c.requires.last

pub returns-clause-all : goal.returns-clause-all
returns-clause-all g c =
    all_or_silent c.in_ok-all.all c.args.epoch (chief_of c.args.chief.now) (chief_of c.exchange.new.chief) (chief_of c.remind.new.chief) (g.N.Net.sent c.args.net.now) (g.N.Net.sent c.exchange.new.net) (g.N.Net.sent c.remind.new.net)
    (g.N.Net.given c.args.net.now) (g.N.Net.given c.exchange.new.net) (g.N.Net.given c.remind.new.net) (g.N.Net.faults c.args.net.now) (g.N.Net.faults c.exchange.new.net) (g.N.Net.faults c.remind.new.net) c.requires.last
    c.in_ok-exchange.ensures.done.said (c.in_ok-exchange.ensures.ends c.requires.told) c.in_ok-all.ensures.done.hears
    (hears_then (chief_of c.args.chief.now) (chief_of c.exchange.new.chief) (chief_of c.remind.new.chief) (g.N.Net.given c.args.net.now) (g.N.Net.given c.exchange.new.net) (g.N.Net.given c.remind.new.net) c.in_ok-exchange.ensures.done.hears c.in_ok-all.ensures.done.hears)
    c.in_ok-all.ensures.all

pub returns-in_err-exchange-clause-letters : goal.returns-in_err-exchange-clause-letters
returns-in_err-exchange-clause-letters g c = c.exchange.ensures.letters

pub returns-in_err-all-clause-letters : goal.returns-in_err-all-clause-letters
returns-in_err-all-clause-letters g c =
    letters_then c.exchange.ensures.letters c.remind.ensures.letters

pub returns-clause-letters : goal.returns-clause-letters
returns-clause-letters g c =
    letters_then c.exchange.ensures.letters c.remind.ensures.letters
