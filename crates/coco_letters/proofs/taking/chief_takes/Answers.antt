use Rattle.std.proofs.Common.{◌≡◌, List, ◌∷◌, refl, sym, subst, ◌∙◌, arith}
use Rattle.std.specs.List.{Contains}
use Rattle.coco_chief.specs.Chief.{Chief}
use Rattle.coco_chief.specs.Shown.{chief_of}
use Rattle.coco_net.specs.declared.letter.Letter.{Letter}
use Rattle.coco_net.specs.declared.letter.Posted.{Posted}
use Rattle.coco_node.specs.Node.{Node}
use Rattle.coco_letters.specs.Taking.{ChiefTakes}
use Rattle.coco_letters.specs.Turns.{AreFresh, AreSent, ChiefHears, Counts}
use Rattle.coco_letters.specs.Worlds.{GoesOn, Scene}
use Rattle.coco_letters.proofs.CountingLemmas.{some_or_not, takes_finished, takes_votes}
use Rattle.coco_letters.proofs.HearingLemmas.{counts_then}
use Rattle.coco_letters.proofs.TakingLemmas.{fresh_then, sent_more}
use Rattle.coco_letters.proofs.TellingLemmas.{takes_says}
use Rattle.coco_letters.proofs.WaitingLemmas.{letter_sent, taken_sent}
use Rattle.coco_letters.proofs.WorldLemmas.{goes_on_then}
use Rattle.coco_letters.proofs.taking.chief_takes.Goals as goal

pub chief_hears-requires-clause-sent : goal.chief_hears-requires-clause-sent
chief_hears-requires-clause-sent g c =
    subst (λ (ps : List Posted). Contains ps (record { to = 8; letter = c.in-Some.letter })) (sym c.next.ensures.sent)
    (letter_sent (g.N.Net.sent c.loop-letter.net) (g.N.Net.waiting c.loop-letter.net) (g.N.Net.waiting c.next.new.self) 8 c.in-Some.letter (omega (arith)) c.loop-letter.invariant.sent c.in-Some.ensures.first)

pub loop-letter-preserved : goal.loop-letter-preserved
loop-letter-preserved g c =
    let before = c.loop-letter.invariant in
    let start = c.args in
    let now = c.loop-letter in
    let after = c.chief_hears.new in
    let did = c.in_ok-chief_hears.ensures in
    let letter : Letter = c.in-Some.letter in
    let scene : List Node → Chief → List Posted → Scene = λ cores chief sent. record { cores = cores; chief = chief; sent = sent } in
    let first : g.N.Net.waiting c.loop-letter.net 8 ≡ letter ∷ g.N.Net.waiting c.chief_hears.new.net 8 =
    subst (λ (ls : List Letter). g.N.Net.waiting c.loop-letter.net 8 ≡ letter ∷ ls) (sym (c.chief_hears.ensures.sends.waiting 8)) c.in-Some.ensures.first in
    let hears : ChiefHears letter (chief_of c.loop-letter.chief) (g.N.Net.sent c.loop-letter.net) (chief_of c.chief_hears.new.chief) (g.N.Net.sent c.chief_hears.new.net) =
    subst (λ (ps : List Posted). ChiefHears letter (chief_of c.loop-letter.chief) ps (chief_of c.chief_hears.new.chief) (g.N.Net.sent c.chief_hears.new.net)) c.next.ensures.sent did.heard in
    let rest : AreSent (g.N.Net.sent c.loop-letter.net) (g.N.Net.waiting c.next.new.self) =
    taken_sent (g.N.Net.sent c.loop-letter.net) (g.N.Net.waiting c.loop-letter.net) (g.N.Net.waiting c.next.new.self) 8 c.next.result before.sent c.next.ensures.first c.next.ensures.others in
    let said : AreFresh (g.N.Net.sent c.loop-letter.net) (g.N.Net.fresh c.loop-letter.net) (g.N.Net.sent c.chief_hears.new.net) (g.N.Net.fresh c.chief_hears.new.net) =
    subst (λ (ps : List Posted). AreFresh (g.N.Net.sent c.loop-letter.net) ps (g.N.Net.sent c.chief_hears.new.net) (g.N.Net.fresh c.chief_hears.new.net)) c.next.ensures.fresh
    (subst (λ (ps : List Posted). AreFresh ps (g.N.Net.fresh c.next.new.self) (g.N.Net.sent c.chief_hears.new.net) (g.N.Net.fresh c.chief_hears.new.net)) c.next.ensures.sent c.chief_hears.ensures.sends.fresh) in
    let taken : Counts (g.N.Net.given c.loop-letter.net) (g.N.Net.faults c.loop-letter.net) (g.N.Net.last_seed c.loop-letter.net) (g.N.Net.given c.next.new.self) (g.N.Net.faults c.next.new.self) (g.N.Net.last_seed c.next.new.self) =
    record { given_stays = c.next.ensures.given; faults_stay = c.next.ensures.faults; seed_stays = c.next.ensures.seed } in
    record {
      nodes = c.chief_hears.ensures.nodes ∙ before.nodes;
      heard = λ end last more. before.heard end last
          (subst (λ (ls : List Letter). ChiefTakes ls (chief_of c.loop-letter.chief) (g.N.Net.sent c.loop-letter.net) end last) (sym first) (chief_of after.chief, g.N.Net.sent after.net, hears, more));
      world = λ cores. goes_on_then (scene cores (chief_of start.chief.now) (g.N.Net.sent start.net.now)) (scene cores (chief_of now.chief) (g.N.Net.sent now.net)) (scene cores (chief_of after.chief) (g.N.Net.sent after.net)) (before.world cores)
          (subst (λ (ps : List Posted). GoesOn (scene cores (chief_of c.loop-letter.chief) ps) (scene cores (chief_of c.chief_hears.new.chief) (g.N.Net.sent c.chief_hears.new.net))) c.next.ensures.sent (did.world cores));
      sent = sent_more (g.N.Net.sent now.net) (g.N.Net.sent after.net) said.posts (g.N.Net.waiting c.next.new.self) (g.N.Net.waiting after.net) said.sent_is c.chief_hears.ensures.sends.waiting rest;
      others = λ p other. c.chief_hears.ensures.sends.waiting p ∙ c.next.ensures.others p other ∙ before.others p other;
      fresh = fresh_then (g.N.Net.sent start.net.now) (g.N.Net.fresh start.net.now) (g.N.Net.sent now.net) (g.N.Net.fresh now.net) (g.N.Net.sent after.net) (g.N.Net.fresh after.net) before.fresh said;
      counts = counts_then (g.N.Net.given start.net.now) (g.N.Net.faults start.net.now) (g.N.Net.last_seed start.net.now) (g.N.Net.given c.next.new.self) (g.N.Net.faults c.next.new.self) (g.N.Net.last_seed c.next.new.self)
          (g.N.Net.given after.net) (g.N.Net.faults after.net) (g.N.Net.last_seed after.net)
          (counts_then (g.N.Net.given start.net.now) (g.N.Net.faults start.net.now) (g.N.Net.last_seed start.net.now) (g.N.Net.given now.net) (g.N.Net.faults now.net) (g.N.Net.last_seed now.net)
          (g.N.Net.given c.next.new.self) (g.N.Net.faults c.next.new.self) (g.N.Net.last_seed c.next.new.self) before.counts taken)
          c.chief_hears.ensures.sends.counts;
    }

pub returns-clause-sent : goal.returns-clause-sent
returns-clause-sent g c =
    subst (λ (ps : List Posted). AreSent ps (g.N.Net.waiting c.next.new.self)) (sym c.next.ensures.sent)
    (taken_sent (g.N.Net.sent c.loop-letter.net) (g.N.Net.waiting c.loop-letter.net) (g.N.Net.waiting c.next.new.self) 8 c.next.result c.loop-letter.invariant.sent c.next.ensures.first c.next.ensures.others)

pub returns-clause-finished : goal.returns-clause-finished
returns-clause-finished g c =
    takes_finished (g.N.Net.waiting c.args.net.now 8) (chief_of c.args.chief.now) (chief_of c.loop-letter.chief) (g.N.Net.sent c.args.net.now) (g.N.Net.sent c.next.new.self) c.args.chief.now.finishers
    (c.loop-letter.invariant.heard (chief_of c.loop-letter.chief) (g.N.Net.sent c.next.new.self)
    (subst (λ (ls : List Letter). ChiefTakes ls (chief_of c.loop-letter.chief) (g.N.Net.sent c.loop-letter.net) (chief_of c.loop-letter.chief) (g.N.Net.sent c.next.new.self)) (sym c.in_default.ensures.first.0) (refl, c.next.ensures.sent)))

pub returns-clause-votes : goal.returns-clause-votes
returns-clause-votes g c =
    takes_votes (g.N.Net.waiting c.args.net.now 8) (chief_of c.args.chief.now) (chief_of c.loop-letter.chief) (g.N.Net.sent c.args.net.now) (g.N.Net.sent c.next.new.self) c.args.chief.now.voters
    (some_or_not c.args.chief.now.phase c.args.chief.now.last c.args.chief.now.current c.args.chief.now.behind)
    (c.loop-letter.invariant.heard (chief_of c.loop-letter.chief) (g.N.Net.sent c.next.new.self)
    (subst (λ (ls : List Letter). ChiefTakes ls (chief_of c.loop-letter.chief) (g.N.Net.sent c.loop-letter.net) (chief_of c.loop-letter.chief) (g.N.Net.sent c.next.new.self)) (sym c.in_default.ensures.first.0) (refl, c.next.ensures.sent)))

pub returns-clause-says : goal.returns-clause-says
returns-clause-says g c =
    takes_says (g.N.Net.waiting c.args.net.now 8) (chief_of c.args.chief.now) (chief_of c.loop-letter.chief) (g.N.Net.sent c.args.net.now) (g.N.Net.sent c.next.new.self) c.requires.few
    (c.loop-letter.invariant.heard (chief_of c.loop-letter.chief) (g.N.Net.sent c.next.new.self)
    (subst (λ (ls : List Letter). ChiefTakes ls (chief_of c.loop-letter.chief) (g.N.Net.sent c.loop-letter.net) (chief_of c.loop-letter.chief) (g.N.Net.sent c.next.new.self)) (sym c.in_default.ensures.first.0) (refl, c.next.ensures.sent)))

pub returns-in_err-chief_hears-clause-fresh : goal.returns-in_err-chief_hears-clause-fresh
returns-in_err-chief_hears-clause-fresh g c =
    fresh_then (g.N.Net.sent c.args.net.now) (g.N.Net.fresh c.args.net.now) (g.N.Net.sent c.loop-letter.net) (g.N.Net.fresh c.loop-letter.net) (g.N.Net.sent c.chief_hears.new.net) (g.N.Net.fresh c.chief_hears.new.net) c.loop-letter.invariant.fresh
    (subst (λ (ps : List Posted). AreFresh (g.N.Net.sent c.loop-letter.net) ps (g.N.Net.sent c.chief_hears.new.net) (g.N.Net.fresh c.chief_hears.new.net)) c.next.ensures.fresh
    (subst (λ (ps : List Posted). AreFresh ps (g.N.Net.fresh c.next.new.self) (g.N.Net.sent c.chief_hears.new.net) (g.N.Net.fresh c.chief_hears.new.net)) c.next.ensures.sent c.chief_hears.ensures.sends.fresh))
