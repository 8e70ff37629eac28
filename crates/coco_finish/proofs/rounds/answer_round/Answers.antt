use Rattle.std.proofs.Common.{◌≡◌, ◌<◌, ℕ, true, List, sym, subst, ◌∙◌}
use Rattle.std.specs.List.{Contains}
use Rattle.coco_chief.specs.Shown.{chief_of}
use Rattle.coco_chief.specs.Chief.{Chief}
use Rattle.coco_chief.specs.Table.{has_finished}
use Rattle.coco_net.specs.declared.letter.Posted.{Posted}
use Rattle.coco_letters.specs.Telling.{Adds, IsOfChief}
use Rattle.coco_letters.specs.Turns.{AreSent}
use Rattle.coco_letters.specs.Worlds.{GoesOn}
use Rattle.coco_letters.proofs.WaitingLemmas.{round_sent}
use Rattle.coco_finish.specs.Exchanges.{UnlessFault}
use Rattle.coco_finish.specs.Finishing.{finished_of}
use Rattle.coco_finish.proofs.ExchangeLemmas.{came_all, hears_given, told_by_chief, up_so}
use Rattle.coco_vote.proofs.LetterLemmas.{letters_round, letters_sent, letters_then}
use Rattle.coco_finish.proofs.FinishLemmas.{finish_same}
use Rattle.coco_letters.proofs.TellingLemmas.{adds_finish}
use Rattle.coco_finish.proofs.rounds.answer_round.Goals as goal

pub chief_takes-requires-clause-sent : goal.chief_takes-requires-clause-sent
chief_takes-requires-clause-sent g c =
    let gives = c.in_ok-round.ensures.ok in
    subst (λ (ps : List Posted). AreSent ps (g.N.Net.waiting c.round.new.self)) (sym c.round.ensures.sent)
    (round_sent (g.N.Net.sent c.args.net.now) (g.N.Net.fresh c.args.net.now) (g.N.Net.faults c.args.net.now) (g.N.Net.faults c.round.new.self) (g.N.Net.waiting c.round.new.self) (g.N.Net.given c.args.net.now) (g.N.Net.given c.round.new.self) gives)

pub returns-clause-done : goal.returns-clause-done
returns-clause-done g c = λ epoch cores tables is can.
    let sent = g.N.Net.sent in
    let chief : Chief = chief_of c.args.chief.now in
    let after : Chief = chief_of c.chief_takes.new.chief in
    let gives = c.in_ok-round.ensures.ok in
    let did = c.in_ok-chief_takes.ensures in
    let were : AreSent (sent c.args.net.now) (g.N.Net.waiting c.round.new.self) =
    round_sent (sent c.args.net.now) (g.N.Net.fresh c.args.net.now) (g.N.Net.faults c.args.net.now) (g.N.Net.faults c.round.new.self) (g.N.Net.waiting c.round.new.self) (g.N.Net.given c.args.net.now) (g.N.Net.given c.round.new.self) gives in
    let says : Adds IsOfChief (sent c.args.net.now) (sent c.chief_takes.new.net) = subst (λ (ps : List Posted). Adds IsOfChief ps (sent c.chief_takes.new.net)) c.round.ensures.sent did.says in
    record {
      finish = finish_same epoch cores tables;
      can = can;
      in_step = λ step. record {
        behind = step.behind;
        told = told_by_chief epoch (sent c.args.net.now) (sent c.chief_takes.new.net) tables.behind.items says step.told;
        up = up_so epoch chief after tables.behind.items (sent c.args.net.now) (g.N.Net.waiting c.round.new.self) is were did.finished step.told step.up;
      };
      hears = hears_given chief after (sent c.args.net.now) (g.N.Net.fresh c.args.net.now) (g.N.Net.faults c.args.net.now) (g.N.Net.faults c.round.new.self) (g.N.Net.waiting c.round.new.self)
          gives.0 (g.N.Net.given c.args.net.now) (g.N.Net.given c.chief_takes.new.net) c.requires.last (c.chief_takes.ensures.counts.given_stays ∙ gives.1) gives.2 did.finished did.votes;
      said = adds_finish epoch (sent c.args.net.now) (sent c.chief_takes.new.net) says;
      world = subst (λ (ps : List Posted). GoesOn (record { cores = cores; chief = chief; sent = ps }) (record { cores = cores; chief = after; sent = sent c.chief_takes.new.net })) c.round.ensures.sent (did.world cores);
    }

pub returns-clause-came : goal.returns-clause-came
returns-clause-came g c = λ epoch is.
    let gives = c.in_ok-round.ensures.ok in
    let did = c.in_ok-chief_takes.ensures in
    let chief : Chief = chief_of c.args.chief.now in
    let after : Chief = chief_of c.chief_takes.new.chief in
    subst (λ (e : ℕ). UnlessFault (g.N.Net.faults c.args.net.now) (g.N.Net.faults c.chief_takes.new.net) ((n : ℕ) → n < (chief_of c.args.chief.now).nodes → Contains (g.N.Net.fresh c.args.net.now) (finished_of n e) → has_finished n (chief_of c.chief_takes.new.chief) ≡ true)) is
    (subst (λ (faults : ℕ). UnlessFault (g.N.Net.faults c.args.net.now) faults ((n : ℕ) → n < (chief_of c.args.chief.now).nodes → Contains (g.N.Net.fresh c.args.net.now) (finished_of n (chief_of c.args.chief.now).last) → has_finished n (chief_of c.chief_takes.new.chief) ≡ true)) (sym c.chief_takes.ensures.counts.faults_stay)
    (came_all chief after (g.N.Net.sent c.args.net.now) (g.N.Net.fresh c.args.net.now) (g.N.Net.faults c.args.net.now) (g.N.Net.faults c.round.new.self) (g.N.Net.waiting c.round.new.self)
    gives.0 (g.N.Net.given c.args.net.now) (g.N.Net.given c.chief_takes.new.net) c.requires.last (c.chief_takes.ensures.counts.given_stays ∙ gives.1) gives.2 did.finished did.votes c.in_ok-round.ensures.faults))

pub returns-in_err-round-clause-letters : goal.returns-in_err-round-clause-letters
returns-in_err-round-clause-letters g c =
    letters_round c.round.result c.round.ensures.sent c.round.ensures.ok c.round.ensures.faults c.round.ensures.err c.round.ensures.seed

pub returns-in_err-chief_takes-clause-letters : goal.returns-in_err-chief_takes-clause-letters
returns-in_err-chief_takes-clause-letters g c =
    letters_then (letters_round c.round.result c.round.ensures.sent c.round.ensures.ok c.round.ensures.faults c.round.ensures.err c.round.ensures.seed) (letters_sent c.chief_takes.ensures.fresh c.chief_takes.ensures.counts)

pub returns-clause-letters : goal.returns-clause-letters
returns-clause-letters g c =
    letters_then (letters_round c.round.result c.round.ensures.sent c.round.ensures.ok c.round.ensures.faults c.round.ensures.err c.round.ensures.seed) (letters_sent c.chief_takes.ensures.fresh c.chief_takes.ensures.counts)
