use Rattle.std.proofs.Common.{◌≡◌, ◌⊎◌, ◌≤◌, ℕ, false, true, List, arith, ap, subst, sym, ◌∙◌}
use Rattle.std.specs.List.{Contains}
use Rattle.std.proofs.lemmas.List.Elements.{All-contains}
use Rattle.coco_chief.specs.Shown.{chief_of}
use Rattle.coco_chief.specs.Table.{is_voting}
use Rattle.coco_chief.specs.declared.machine.Phase.{Phase}
use Rattle.coco_net.specs.declared.letter.Posted.{Posted}
use Rattle.coco_letters.specs.Telling.{Adds, IsOfChief}
use Rattle.coco_letters.specs.Turns.{AreSent}
use Rattle.coco_letters.specs.Worlds.{GoesOn}
use Rattle.coco_letters.proofs.TellingLemmas.{adds_then}
use Rattle.coco_letters.proofs.WorldLemmas.{goes_on_then}
use Rattle.coco_vote.specs.Counting.{HasCounted, IsAye}
use Rattle.coco_vote.specs.Taking.{vote_of}
use Rattle.coco_vote.proofs.CountingLemmas.{noes_still, round_counted, takes_counted}
use Rattle.coco_vote.proofs.GivingLemmas.{fresh_given, given_since, given_waits, sent_still, waits_given}
use Rattle.coco_vote.proofs.TakingLemmas.{fresh_still}
use Rattle.coco_vote.proofs.LetterLemmas.{letters_round, letters_sent, letters_then}
use Rattle.coco_vote.proofs.exchange.collect.Goals as goal

pub chief_takes-requires-2-clause-sent : goal.chief_takes-requires-2-clause-sent
chief_takes-requires-2-clause-sent g c =
    subst (λ (ps : List Posted). AreSent ps (g.N.Net.waiting c.round.new.self)) (sym c.round.ensures.sent)
    (c.waiting_letters_were_sent.ensures.round (g.N.Net.sent c.chief_takes.new.net) (g.N.Net.fresh c.chief_takes.new.net) (g.N.Net.faults c.chief_takes.new.net) (g.N.Net.faults c.round.new.self) (g.N.Net.waiting c.round.new.self) (g.N.Net.given c.chief_takes.new.net) (g.N.Net.given c.round.new.self) c.in_ok-round.ensures.ok)

pub returns-in_err-chief_takes-clause-letters : goal.returns-in_err-chief_takes-clause-letters
returns-in_err-chief_takes-clause-letters g c =
    letters_sent c.chief_takes.ensures.fresh c.chief_takes.ensures.counts

pub returns-in_err-round-clause-letters : goal.returns-in_err-round-clause-letters
returns-in_err-round-clause-letters g c =
    letters_then (letters_sent c.chief_takes.ensures.fresh c.chief_takes.ensures.counts) (letters_round c.round.result c.round.ensures.sent c.round.ensures.ok c.round.ensures.faults c.round.ensures.err c.round.ensures.seed)

pub returns-in_err-chief_takes-2-clause-letters : goal.returns-in_err-chief_takes-2-clause-letters
returns-in_err-chief_takes-2-clause-letters g c =
    letters_then (letters_then (letters_sent c.chief_takes.ensures.fresh c.chief_takes.ensures.counts) (letters_round c.round.result c.round.ensures.sent c.round.ensures.ok c.round.ensures.faults c.round.ensures.err c.round.ensures.seed)) (letters_sent c.chief_takes-2.ensures.fresh c.chief_takes-2.ensures.counts)

pub returns-clause-counted : goal.returns-clause-counted
returns-clause-counted g c e given more some fits counted noes is =
    let s0 = g.N.Net.sent c.args.net.now in
    let s1 = g.N.Net.sent c.chief_takes.new.net in
    let sr = g.N.Net.sent c.round.new.self in
    let w0 = g.N.Net.waiting c.args.net.now 8 in
    let w1 = g.N.Net.waiting c.round.new.self 8 in
    let gives = c.in_ok-round.ensures.ok in
    let le : 8 ≤ 8 = omega arith in
    let one : HasCounted e (λ n. IsAye e given n ⊎ Contains w0 (vote_of n e true).letter) (chief_of c.chief_takes.new.chief) =
    takes_counted e (IsAye e given) w0 (chief_of c.args.chief.now) (chief_of c.chief_takes.new.chief) s0 s1 c.requires.few some fits counted noes (λ l among. c.requires.sent 8 l le among) c.in_ok-chief_takes.ensures.heard in
    let still : (n : ℕ) → Contains sr (vote_of n e false) → ⊥ =
    λ n among. noes_still e s0 s1 c.in_ok-chief_takes.ensures.says noes n (subst (λ (ps : List Posted). Contains ps (vote_of n e false)) c.round.ensures.sent among) in
    let were : AreSent sr (g.N.Net.waiting c.round.new.self) = subst (λ (ps : List Posted). AreSent ps (g.N.Net.waiting c.round.new.self)) (sym c.round.ensures.sent)
    (c.waiting_letters_were_sent.ensures.round s1 (g.N.Net.fresh c.chief_takes.new.net) (g.N.Net.faults c.chief_takes.new.net) (g.N.Net.faults c.round.new.self) (g.N.Net.waiting c.round.new.self) (g.N.Net.given c.chief_takes.new.net) (g.N.Net.given c.round.new.self) gives) in
    let two : HasCounted e (λ n. (IsAye e given n ⊎ Contains w0 (vote_of n e true).letter) ⊎ Contains w1 (vote_of n e true).letter) (chief_of c.chief_takes-2.new.chief) =
    takes_counted e (λ n. IsAye e given n ⊎ Contains w0 (vote_of n e true).letter) w1 (chief_of c.chief_takes.new.chief) (chief_of c.chief_takes-2.new.chief) sr (g.N.Net.sent c.chief_takes-2.new.net) (omega (arith, c.chief_takes.ensures.nodes, c.requires.few)) some fits one still (λ l among. were 8 l le among) c.in_ok-chief_takes-2.ensures.heard in
    round_counted e (λ n. IsAye e given n ⊎ Contains w0 (vote_of n e true).letter) w1 gives.0 more (chief_of c.chief_takes-2.new.chief)
    (given_since (g.N.Net.given c.args.net.now) (g.N.Net.given c.chief_takes.new.net) (g.N.Net.given c.round.new.self) (g.N.Net.given c.chief_takes-2.new.net) gives.0 more c.chief_takes.ensures.counts.given_stays gives.1 c.chief_takes-2.ensures.counts.given_stays is)
    (λ n among. waits_given s1 (g.N.Net.fresh c.chief_takes.new.net) (g.N.Net.faults c.chief_takes.new.net) (g.N.Net.faults c.round.new.self) (g.N.Net.waiting c.round.new.self) gives.0 gives.2 8 le (vote_of n e true).letter among)
    (λ n among. given_waits s1 (g.N.Net.fresh c.chief_takes.new.net) (g.N.Net.faults c.chief_takes.new.net) (g.N.Net.faults c.round.new.self) (g.N.Net.waiting c.round.new.self) gives.0 gives.2 8 le (vote_of n e true).letter among)
    two

pub returns-clause-says : goal.returns-clause-says
returns-clause-says g c =
    adds_then (g.N.Net.sent c.args.net.now) (g.N.Net.sent c.chief_takes.new.net) (g.N.Net.sent c.chief_takes-2.new.net) c.in_ok-chief_takes.ensures.says
    (subst (λ (ps : List Posted). Adds IsOfChief ps (g.N.Net.sent c.chief_takes-2.new.net)) c.round.ensures.sent c.in_ok-chief_takes-2.ensures.says)

pub returns-clause-gives : goal.returns-clause-gives
returns-clause-gives g c more p is same among =
    let gives = c.in_ok-round.ensures.ok in
    let these : more ≡ gives.0 = given_since (g.N.Net.given c.args.net.now) (g.N.Net.given c.chief_takes.new.net) (g.N.Net.given c.round.new.self) (g.N.Net.given c.chief_takes-2.new.net) gives.0 more c.chief_takes.ensures.counts.given_stays gives.1 c.chief_takes-2.ensures.counts.given_stays is in
    subst (λ (ps : List Posted). Contains ps p) (sym these)
    (fresh_given (g.N.Net.sent c.chief_takes.new.net) (g.N.Net.fresh c.chief_takes.new.net) (g.N.Net.faults c.chief_takes.new.net) (g.N.Net.faults c.round.new.self) (g.N.Net.waiting c.round.new.self) gives.0 p gives.2
    (sym c.chief_takes-2.ensures.counts.faults_stay ∙ same ∙ sym c.chief_takes.ensures.counts.faults_stay)
    (fresh_still (g.N.Net.sent c.args.net.now) (g.N.Net.fresh c.args.net.now) (g.N.Net.sent c.chief_takes.new.net) (g.N.Net.fresh c.chief_takes.new.net) p c.in_ok-chief_takes.ensures.fresh among))

pub returns-clause-world : goal.returns-clause-world
returns-clause-world g c cores =
    goes_on_then (record { cores = cores; chief = chief_of c.args.chief.now; sent = g.N.Net.sent c.args.net.now }) (record { cores = cores; chief = chief_of c.chief_takes.new.chief; sent = g.N.Net.sent c.chief_takes.new.net }) (record { cores = cores; chief = chief_of c.chief_takes-2.new.chief; sent = g.N.Net.sent c.chief_takes-2.new.net })
    (c.in_ok-chief_takes.ensures.world cores)
    (subst (λ (ps : List Posted). GoesOn (record { cores = cores; chief = chief_of c.chief_takes.new.chief; sent = ps }) (record { cores = cores; chief = chief_of c.chief_takes-2.new.chief; sent = g.N.Net.sent c.chief_takes-2.new.net })) c.round.ensures.sent (c.in_ok-chief_takes-2.ensures.world cores))

pub returns-clause-letters : goal.returns-clause-letters
returns-clause-letters g c =
    letters_then (letters_then (letters_sent c.chief_takes.ensures.fresh c.chief_takes.ensures.counts) (letters_round c.round.result c.round.ensures.sent c.round.ensures.ok c.round.ensures.faults c.round.ensures.err c.round.ensures.seed)) (letters_sent c.chief_takes-2.ensures.fresh c.chief_takes-2.ensures.counts)

pub returns-clause-were_sent : goal.returns-clause-were_sent
returns-clause-were_sent g c more p is among =
    let gives = c.in_ok-round.ensures.ok in
    let these : more ≡ gives.0 = given_since (g.N.Net.given c.args.net.now) (g.N.Net.given c.chief_takes.new.net) (g.N.Net.given c.round.new.self) (g.N.Net.given c.chief_takes-2.new.net) gives.0 more c.chief_takes.ensures.counts.given_stays gives.1 c.chief_takes-2.ensures.counts.given_stays is in
    sent_still (g.N.Net.sent c.chief_takes.new.net) (g.N.Net.sent c.round.new.self) (g.N.Net.fresh c.round.new.self) (g.N.Net.sent c.chief_takes-2.new.net) (g.N.Net.fresh c.chief_takes-2.new.net) p c.round.ensures.sent c.in_ok-chief_takes-2.ensures.fresh
    (All-contains (Contains (g.N.Net.sent c.chief_takes.new.net)) gives.0 p gives.2.were_sent (subst (λ (ps : List Posted). Contains ps p) these among))

pub returns-clause-rests : goal.returns-clause-rests
returns-clause-rests g c = λ still.
    let one = c.in_ok-chief_takes.ensures.votes in
    let two = c.in_ok-chief_takes-2.ensures.votes in
    let first : (chief_of c.chief_takes.new.chief).phase ≡ (chief_of c.args.chief.now).phase = one.rests still in
    (two.rests (ap (λ (p : Phase). is_voting p) first ∙ still) ∙ first, two.current ∙ one.current)
