use Rattle.std.proofs.Common.{◌≡◌, ◌<◌, ◌^◌, ℕ, List, length, sym, subst, ◌∙◌, arith}
use Rattle.std.specs.List.{Contains}
use Rattle.coco_chief.specs.Shown.{chief_of}
use Rattle.coco_chief.specs.Chief.{Chief}
use Rattle.coco_net.specs.declared.letter.Posted.{Posted}
use Rattle.coco_net.specs.declared.letter.Letter.{Letter}
use Rattle.coco_node.specs.Node.{Node}
use Rattle.coco_letters.specs.Counting.{CountsFinished, CountsVotes}
use Rattle.coco_letters.specs.Telling.{Adds, IsOfFinish}
use Rattle.coco_letters.specs.Turns.{AreSent}
use Rattle.coco_letters.specs.Worlds.{GoesOn, Scene}
use Rattle.coco_letters.proofs.TellingLemmas.{adds_finish, adds_then}
use Rattle.coco_letters.proofs.WaitingLemmas.{round_sent}
use Rattle.coco_letters.proofs.WorldLemmas.{goes_on_then}
use Rattle.coco_finish.specs.Exchanges.{commit_of, UnlessFault}
use Rattle.coco_finish.specs.Finishing.{finished_of, AreTold}
use Rattle.coco_finish.proofs.ExchangeLemmas.{fresh_more, hears_given, told_all, told_by_chief, up_so, up_still}
use Rattle.coco_vote.proofs.LetterLemmas.{letters_round, letters_sent, letters_then}
use Rattle.coco_finish.proofs.PhaseLemmas.{tables_same}
use Rattle.coco_finish.proofs.rounds.tell_round.Goals as goal

pub nodes_finish-requires-clause-sent : goal.nodes_finish-requires-clause-sent
nodes_finish-requires-clause-sent g c =
    subst (λ (ps : List Posted). AreSent ps (g.N.Net.waiting c.round.new.self)) (sym c.round.ensures.sent)
    (round_sent (g.N.Net.sent c.args.net.now) (g.N.Net.fresh c.args.net.now) (g.N.Net.faults c.args.net.now) (g.N.Net.faults c.round.new.self) (g.N.Net.waiting c.round.new.self) (g.N.Net.given c.args.net.now) (g.N.Net.given c.round.new.self) c.in_ok-round.ensures.ok)

pub nodes_finish-requires-clause-few : goal.nodes_finish-requires-clause-few
nodes_finish-requires-clause-few g c = c.requires.may.few

pub nodes_finish-requires-clause-some : goal.nodes_finish-requires-clause-some
nodes_finish-requires-clause-some g c = c.requires.may.some

pub nodes_finish-requires-clause-whole : goal.nodes_finish-requires-clause-whole
nodes_finish-requires-clause-whole g c = c.requires.may.whole

pub nodes_finish-requires-clause-behind : goal.nodes_finish-requires-clause-behind
nodes_finish-requires-clause-behind g c = c.requires.may.behind

pub nodes_finish-requires-clause-can : goal.nodes_finish-requires-clause-can
nodes_finish-requires-clause-can g c = c.requires.may.can

pub returns-clause-done : goal.returns-clause-done
returns-clause-done g c =
    let sent = g.N.Net.sent in
    let chief : Chief = chief_of c.args.chief.now in
    let after : Chief = chief_of c.chief_takes.new.chief in
    let gives = c.in_ok-round.ensures.ok in
    let nodes = c.in_ok-nodes_finish.ensures.done in
    let did = c.in_ok-chief_takes.ensures in
    let fits : chief.last < 2 ^ 64 = omega (arith, c.requires.last, c.ranges.epoch.fits) in
    let were : AreSent (sent c.args.net.now) (g.N.Net.waiting c.round.new.self) =
    round_sent (sent c.args.net.now) (g.N.Net.fresh c.args.net.now) (g.N.Net.faults c.args.net.now) (g.N.Net.faults c.round.new.self) (g.N.Net.waiting c.round.new.self) (g.N.Net.given c.args.net.now) (g.N.Net.given c.round.new.self) gives in
    let same : g.N.Net.waiting c.nodes_finish.new.net 8 ≡ g.N.Net.waiting c.round.new.self 8 = c.nodes_finish.ensures.others 8 c.requires.may.few in
    let finished : CountsFinished (g.N.Net.waiting c.round.new.self 8) chief after = subst (λ (ls : List Letter). CountsFinished ls chief after) same did.finished in
    let scene : List Node → Chief → List Posted → Scene = λ cores chief sent. record { cores = cores; chief = chief; sent = sent } in
    record {
      finish = nodes.finish;
      can = nodes.can;
      in_step = λ step. record {
        behind = nodes.are_behind step.behind;
        told = told_by_chief c.args.epoch (sent c.nodes_finish.new.net) (sent c.chief_takes.new.net) c.nodes_finish.new.tables.behind.items did.says
            (nodes.told step.behind (subst (λ (ps : List Posted). AreTold c.args.epoch ps c.args.tables.now.behind.items) (sym c.round.ensures.sent) step.told));
        up = up_still c.args.epoch after c.args.cores.now c.nodes_finish.new.cores c.args.tables.now c.nodes_finish.new.tables nodes.finish
            (up_so c.args.epoch chief after c.args.tables.now.behind.items (sent c.args.net.now) (g.N.Net.waiting c.round.new.self) c.requires.last were finished step.told step.up);
      };
      hears = hears_given chief after (sent c.args.net.now) (g.N.Net.fresh c.args.net.now) (g.N.Net.faults c.args.net.now) (g.N.Net.faults c.round.new.self) (g.N.Net.waiting c.round.new.self)
          gives.0 (g.N.Net.given c.args.net.now) (g.N.Net.given c.chief_takes.new.net) fits (c.chief_takes.ensures.counts.given_stays ∙ c.nodes_finish.ensures.counts.given_stays ∙ gives.1) gives.2
          finished (subst (λ (ls : List Letter). CountsVotes ls chief after) same did.votes);
      said = adds_then (sent c.args.net.now) (sent c.nodes_finish.new.net) (sent c.chief_takes.new.net)
          (subst (λ (ps : List Posted). Adds (IsOfFinish c.args.epoch) ps (sent c.nodes_finish.new.net)) c.round.ensures.sent nodes.said)
          (adds_finish c.args.epoch (sent c.nodes_finish.new.net) (sent c.chief_takes.new.net) did.says);
      world = goes_on_then (scene c.args.cores.now chief (sent c.args.net.now)) (scene c.nodes_finish.new.cores chief (sent c.nodes_finish.new.net)) (scene c.nodes_finish.new.cores after (sent c.chief_takes.new.net))
          (subst (λ (ps : List Posted). GoesOn (scene c.args.cores.now chief ps) (scene c.nodes_finish.new.cores chief (sent c.nodes_finish.new.net))) c.round.ensures.sent (nodes.world chief))
          (did.world c.nodes_finish.new.cores);
    }

pub returns-clause-answers : goal.returns-clause-answers
returns-clause-answers g c =
    let gives = c.in_ok-round.ensures.ok in
    let faults : g.N.Net.faults c.chief_takes.new.net ≡ g.N.Net.faults c.round.new.self = c.chief_takes.ensures.counts.faults_stay ∙ c.nodes_finish.ensures.counts.faults_stay in
    let fits : c.args.epoch < 2 ^ 64 = omega (arith, c.ranges.epoch.fits) in
    subst (λ (faults : ℕ). UnlessFault (g.N.Net.faults c.args.net.now) faults ((n : ℕ) → n < length c.args.cores.now → Contains (g.N.Net.fresh c.args.net.now) (commit_of n c.args.epoch) → Contains (g.N.Net.fresh c.chief_takes.new.net) (finished_of n c.args.epoch))) (sym faults)
    (told_all c.args.epoch (length c.args.cores.now) (g.N.Net.sent c.args.net.now) (g.N.Net.fresh c.args.net.now) (g.N.Net.faults c.args.net.now) (g.N.Net.faults c.round.new.self) (g.N.Net.waiting c.round.new.self)
    gives.0 (g.N.Net.fresh c.chief_takes.new.net) fits c.requires.may.few gives.2 c.in_ok-round.ensures.faults
    (λ n l lt waits tells. fresh_more (g.N.Net.sent c.nodes_finish.new.net) (g.N.Net.fresh c.nodes_finish.new.net) (g.N.Net.sent c.chief_takes.new.net) (g.N.Net.fresh c.chief_takes.new.net) c.in_ok-chief_takes.ensures.fresh (finished_of n c.args.epoch) (c.in_ok-nodes_finish.ensures.answers n l lt waits tells)))

pub returns-in_err-round-clause-letters : goal.returns-in_err-round-clause-letters
returns-in_err-round-clause-letters g c =
    letters_round c.round.result c.round.ensures.sent c.round.ensures.ok c.round.ensures.faults c.round.ensures.err c.round.ensures.seed

pub returns-in_err-nodes_finish-clause-letters : goal.returns-in_err-nodes_finish-clause-letters
returns-in_err-nodes_finish-clause-letters g c =
    letters_then (letters_round c.round.result c.round.ensures.sent c.round.ensures.ok c.round.ensures.faults c.round.ensures.err c.round.ensures.seed) (letters_sent c.nodes_finish.ensures.fresh c.nodes_finish.ensures.counts)

pub returns-in_err-chief_takes-clause-letters : goal.returns-in_err-chief_takes-clause-letters
returns-in_err-chief_takes-clause-letters g c =
    letters_then (letters_then (letters_round c.round.result c.round.ensures.sent c.round.ensures.ok c.round.ensures.faults c.round.ensures.err c.round.ensures.seed) (letters_sent c.nodes_finish.ensures.fresh c.nodes_finish.ensures.counts)) (letters_sent c.chief_takes.ensures.fresh c.chief_takes.ensures.counts)

pub returns-clause-letters : goal.returns-clause-letters
returns-clause-letters g c =
    letters_then (letters_then (letters_round c.round.result c.round.ensures.sent c.round.ensures.ok c.round.ensures.faults c.round.ensures.err c.round.ensures.seed) (letters_sent c.nodes_finish.ensures.fresh c.nodes_finish.ensures.counts)) (letters_sent c.chief_takes.ensures.fresh c.chief_takes.ensures.counts)

pub returns-in_err-round-clause-keep : goal.returns-in_err-round-clause-keep
returns-in_err-round-clause-keep g c = tables_same c.args.tables.now c.requires.may.whole
