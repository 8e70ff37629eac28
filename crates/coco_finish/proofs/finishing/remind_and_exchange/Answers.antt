use Rattle.std.proofs.Common.{ℕ, sym, subst}
use Rattle.coco_chief.specs.Shown.{chief_of}
use Rattle.coco_chief.specs.Chief.{Chief}
use Rattle.coco_letters.proofs.TellingLemmas.{adds_finish}
use Rattle.coco_finish.specs.Exchanges.{HaveAllFinished, HearsGiven, UnlessFault}
use Rattle.coco_finish.proofs.ExchangeLemmas.{reminded_asks, reminded_fresh, told_by_chief, hears_same}
use Rattle.coco_vote.proofs.LetterLemmas.{letters_sent, letters_then}
use Rattle.coco_finish.proofs.PhaseLemmas.{finished_then, tables_same}
use Rattle.coco_finish.specs.Phase.{HasFinished}
use Rattle.coco_finish.proofs.FinishLemmas.{finish_same}
use Rattle.coco_finish.proofs.finishing.remind_and_exchange.Goals as goal

pub exchange-requires-clause-may : goal.exchange-requires-clause-may
exchange-requires-clause-may g c = c.requires.may

pub returns-in_err-chief_reminds-clause-keep : goal.returns-in_err-chief_reminds-clause-keep
returns-in_err-chief_reminds-clause-keep g c = tables_same c.args.tables.now c.requires.may.whole

pub returns-clause-done : goal.returns-clause-done
returns-clause-done g c =
    let sent = g.N.Net.sent in
    let chief : Chief = chief_of c.args.chief.now in
    let did = c.in_ok-chief_reminds.ensures in
    let reminded : HasFinished g.N.Net c.args.epoch c.args.cores.now c.args.cores.now chief chief c.args.tables.now c.args.tables.now c.args.net.now c.chief_reminds.new.net = record {
      finish = finish_same c.args.epoch c.args.cores.now c.args.tables.now;
      can = c.requires.may.can;
      in_step = λ step. record {
        behind = step.behind;
        told = told_by_chief c.args.epoch (sent c.args.net.now) (sent c.chief_reminds.new.net) c.args.tables.now.behind.items did.says step.told;
        up = step.up;
      };
      hears = subst (HearsGiven chief (g.N.Net.given c.args.net.now) chief) (sym c.chief_reminds.ensures.sends.counts.given_stays) (hears_same chief (g.N.Net.given c.args.net.now));
      said = adds_finish c.args.epoch (sent c.args.net.now) (sent c.chief_reminds.new.net) did.says;
      world = did.world c.args.cores.now;
    } in
    finished_then reminded c.in_ok-exchange.ensures.done

pub returns-clause-asks : goal.returns-clause-asks
returns-clause-asks g c =
    reminded_asks c.args.epoch (chief_of c.args.chief.now) (g.N.Net.sent c.args.net.now) (g.N.Net.sent c.chief_reminds.new.net) c.requires.may.some c.requires.last c.in_ok-chief_reminds.ensures.turns (g.N.Net.sent c.exchange.new.net) c.in_ok-exchange.ensures.done.said

pub returns-clause-ends : goal.returns-clause-ends
returns-clause-ends g c =
    subst (λ (faults : ℕ). UnlessFault faults (g.N.Net.faults c.exchange.new.net) (HaveAllFinished (chief_of c.exchange.new.chief))) c.chief_reminds.ensures.sends.counts.faults_stay
    (c.in_ok-exchange.ensures.ends
    (reminded_fresh c.args.epoch (chief_of c.args.chief.now) (g.N.Net.sent c.args.net.now) (g.N.Net.sent c.chief_reminds.new.net) c.requires.may.some c.requires.last c.in_ok-chief_reminds.ensures.turns
    (g.N.Net.fresh c.args.net.now) (g.N.Net.fresh c.chief_reminds.new.net) c.in_ok-chief_reminds.ensures.sends.fresh))

pub returns-in_err-chief_reminds-clause-letters : goal.returns-in_err-chief_reminds-clause-letters
returns-in_err-chief_reminds-clause-letters g c =
    letters_sent c.chief_reminds.ensures.sends.fresh c.chief_reminds.ensures.sends.counts

pub returns-in_err-exchange-clause-letters : goal.returns-in_err-exchange-clause-letters
returns-in_err-exchange-clause-letters g c =
    letters_then (letters_sent c.chief_reminds.ensures.sends.fresh c.chief_reminds.ensures.sends.counts) c.exchange.ensures.letters

pub returns-clause-letters : goal.returns-clause-letters
returns-clause-letters g c =
    letters_then (letters_sent c.chief_reminds.ensures.sends.fresh c.chief_reminds.ensures.sends.counts) c.exchange.ensures.letters
