use Rattle.std.proofs.Common.{◌≡◌, inl, inr, ◌<◌, ◌≤◌, ◌^◌, true, List, ◌++◌, arith, refl, subst, sym, ◌∙◌}
use Rattle.std.specs.List.{Contains}
use Rattle.std.proofs.lemmas.List.Elements.{All-contains, Contains-append_cases, Contains-append_right}
use Rattle.std.proofs.lemmas.Result.{err_from_is_err_and}
use Rattle.coco_chief.specs.Shown.{chief_of}
use Rattle.coco_net.specs.declared.letter.Letter.{Letter}
use Rattle.coco_net.specs.declared.letter.Posted.{Posted}
use Rattle.coco_world.proofs.Tools.{not_both}
use Rattle.coco_letters.specs.Telling.{Adds, IsOfVote}
use Rattle.coco_letters.specs.Turns.{AreSent}
use Rattle.coco_letters.specs.Worlds.{GoesBetween, SameEntries}
use Rattle.coco_letters.proofs.TellingLemmas.{adds_left, adds_then, adds_vote}
use Rattle.coco_letters.proofs.WorldLemmas.{between_on, between_then}
use Rattle.coco_vote.specs.Counting.{prepare_of, HasCounted, IsAye}
use Rattle.coco_vote.specs.Preparing.{have_durable, Ballot, RestsVoted}
use Rattle.coco_vote.specs.Taking.{has_lost, vote_of, AreTold}
use Rattle.coco_vote.specs.Voting.{PreparesOnly}
use Rattle.coco_vote.proofs.CountingLemmas.{asked_from, exchange_counted, told_still}
use Rattle.coco_vote.proofs.GivingLemmas.{fresh_given, given_since, given_waits, gives_round, sent_still, since_both, waits_given}
use Rattle.coco_vote.proofs.PreparingLemmas.{keeps_same, none_ok}
use Rattle.coco_vote.proofs.StepLemmas.{only_same, only_then}
use Rattle.coco_vote.proofs.StopLemmas.{never_lost, unless_lost}
use Rattle.coco_vote.proofs.TakingLemmas.{unless_any}
use Rattle.coco_vote.proofs.KeepingLemmas.{rest_net, rest_round, rest_then}
use Rattle.coco_vote.proofs.exchange.exchange.Goals as goal

pub nodes_take-requires-clause-sent : goal.nodes_take-requires-clause-sent
nodes_take-requires-clause-sent g c =
    (subst (λ (ps : List Posted). AreSent ps (g.N.Net.waiting c.round.new.self)) (sym c.round.ensures.sent) (c.waiting_letters_were_sent.ensures.round (g.N.Net.sent c.args.net.now) (g.N.Net.fresh c.args.net.now) (g.N.Net.faults c.args.net.now) (g.N.Net.faults c.round.new.self) (g.N.Net.waiting c.round.new.self) (g.N.Net.given c.args.net.now) (g.N.Net.given c.round.new.self) c.in_ok-round.ensures.ok))

pub returns-in_err-round-clause-files : goal.returns-in_err-round-clause-files
returns-in_err-round-clause-files g c k hold held may nodes logs rests =
    let b : Ballot = record { epoch = c.args.epoch; pieces = c.args.pieces.now; held = hold } in
    let p = err_from_is_err_and c.from_residual.result c.from_residual.ensures.1 in
    record {
      keeps = keeps_same g.H.Host k b g.met.H.Host.only_now (have_durable c.args.epoch c.args.cores.now) c.args.host.now rests;
      ok = none_ok c.from_residual.result p.0 (RestsVoted k b (have_durable c.args.epoch c.args.cores.now) (g.H.Host.reads c.args.host.now) (g.H.Host.may_leave c.args.host.now)) p.1;
    }

pub returns-in_err-stops-clause-files : goal.returns-in_err-stops-clause-files
returns-in_err-stops-clause-files g c k hold held may nodes logs rests =
    let b : Ballot = record { epoch = c.args.epoch; pieces = c.args.pieces.now; held = hold } in
    let p = err_from_is_err_and c.from_residual-in_err-stops.result c.from_residual-in_err-stops.ensures.1 in
    record {
      keeps = (c.nodes_take.ensures.files k hold held may nodes logs rests).keeps;
      ok = none_ok c.from_residual-in_err-stops.result p.0 (RestsVoted k b (have_durable c.args.epoch c.nodes_take.new.cores) (g.H.Host.reads c.nodes_take.new.host) (g.H.Host.may_leave c.nodes_take.new.host)) p.1;
    }

pub returns-then-is_early-clause-told : goal.returns-then-is_early-clause-told
returns-then-is_early-clause-told g c =
    (c.in_ok-stops.ensures.told (subst (λ (ps : List Posted). AreTold c.args.epoch c.args.cores.now ps (g.P.Power.asked c.args.power.now)) (sym c.round.ensures.sent) c.requires.told))

pub returns-then-is_early-clause-counted : goal.returns-then-is_early-clause-counted
returns-then-is_early-clause-counted g c =
    unless_lost c.in_ok-stops.stops ((given more : List Posted) → HasCounted c.args.epoch (IsAye c.args.epoch given) (chief_of c.args.chief.now) → (g.N.Net.given c.nodes_take.new.net) ≡ (g.N.Net.given c.args.net.now) ++ more → HasCounted c.args.epoch (IsAye c.args.epoch (given ++ more)) (chief_of c.args.chief.now)) (sym c.is_early.ensures ∙ c.if-is_early.true)

pub returns-then-is_early-clause-votes : goal.returns-then-is_early-clause-votes
returns-then-is_early-clause-votes g c =
    λ never. absurd (never_lost c.in_ok-stops.stops never (sym c.is_early.ensures ∙ c.if-is_early.true))

pub returns-then-is_early-clause-says : goal.returns-then-is_early-clause-says
returns-then-is_early-clause-says g c =
    subst (λ (ps : List Posted). Adds (IsOfVote c.args.epoch) ps (g.N.Net.sent c.nodes_take.new.net)) c.round.ensures.sent c.in_ok-stops.ensures.says

pub returns-then-is_early-clause-files : goal.returns-then-is_early-clause-files
returns-then-is_early-clause-files g c k hold held may nodes logs rests =
    c.in_ok-stops.ensures.files k hold held may nodes logs rests

pub returns-then-is_early-clause-world : goal.returns-then-is_early-clause-world
returns-then-is_early-clause-world g c =
    (subst (λ (ps : List Posted). GoesBetween (g.P.Power.stopped c.args.power.now) (g.P.Power.stopped c.nodes_take.new.power) (PreparesOnly c.args.epoch) (record { cores = c.args.cores.now; chief = chief_of c.args.chief.now; sent = ps }) (record { cores = c.nodes_take.new.cores; chief = chief_of c.args.chief.now; sent = (g.N.Net.sent c.nodes_take.new.net) })) c.round.ensures.sent (c.in_ok-stops.ensures.world (chief_of c.args.chief.now)))

pub returns-in_err-collect-clause-files : goal.returns-in_err-collect-clause-files
returns-in_err-collect-clause-files g c k hold held may nodes logs rests =
    let b : Ballot = record { epoch = c.args.epoch; pieces = c.args.pieces.now; held = hold } in
    let p = err_from_is_err_and c.from_residual-in_err-collect.result c.from_residual-in_err-collect.ensures.1 in
    record {
      keeps = (c.nodes_take.ensures.files k hold held may nodes logs rests).keeps;
      ok = none_ok c.from_residual-in_err-collect.result p.0 (RestsVoted k b (have_durable c.args.epoch c.nodes_take.new.cores) (g.H.Host.reads c.nodes_take.new.host) (g.H.Host.may_leave c.nodes_take.new.host)) p.1;
    }

pub returns-clause-told : goal.returns-clause-told
returns-clause-told g c =
    told_still c.args.epoch c.nodes_take.new.cores (g.N.Net.sent c.nodes_take.new.net) (g.N.Net.sent c.collect.new.net) (g.P.Power.asked c.nodes_take.new.power) c.in_ok-collect.ensures.says (c.in_ok-stops.ensures.told (subst (λ (ps : List Posted). AreTold c.args.epoch c.args.cores.now ps (g.P.Power.asked c.args.power.now)) (sym c.round.ensures.sent) c.requires.told))

pub returns-clause-counted : goal.returns-clause-counted
returns-clause-counted g c =
    unless_any c.in_ok-stops.stops ((given more : List Posted) → HasCounted c.args.epoch (IsAye c.args.epoch given) (chief_of c.args.chief.now) → (g.N.Net.given c.collect.new.net) ≡ (g.N.Net.given c.args.net.now) ++ more → HasCounted c.args.epoch (IsAye c.args.epoch (given ++ more)) (chief_of c.collect.new.chief)) (λ given more counted is.
    let gives = c.in_ok-round.ensures.ok in
    let le : 8 ≤ 8 = omega arith in
    exchange_counted c.args.epoch given gives.0 c.collect.ensures.letters.gives.more more (g.N.Net.waiting c.nodes_take.new.net 8) (chief_of c.collect.new.chief) (since_both (g.N.Net.given c.args.net.now) (g.N.Net.given c.nodes_take.new.net) (g.N.Net.given c.collect.new.net) gives.0 c.collect.ensures.letters.gives.more more (c.nodes_take.ensures.counts.given_stays ∙ gives.1) c.collect.ensures.letters.gives.gives is)
    (λ n among. waits_given (g.N.Net.sent c.args.net.now) (g.N.Net.fresh c.args.net.now) (g.N.Net.faults c.args.net.now) (g.N.Net.faults c.round.new.self) (g.N.Net.waiting c.round.new.self) gives.0 gives.2 8 le (vote_of n c.args.epoch true).letter (subst (λ (ls : List Letter). Contains ls (vote_of n c.args.epoch true).letter) (c.nodes_take.ensures.waiting 8 c.requires.few) among))
    (λ n among. subst (λ (ls : List Letter). Contains ls (vote_of n c.args.epoch true).letter) (sym (c.nodes_take.ensures.waiting 8 c.requires.few)) (given_waits (g.N.Net.sent c.args.net.now) (g.N.Net.fresh c.args.net.now) (g.N.Net.faults c.args.net.now) (g.N.Net.faults c.round.new.self) (g.N.Net.waiting c.round.new.self) gives.0 gives.2 8 le (vote_of n c.args.epoch true).letter among))
    (c.in_ok-collect.ensures.counted c.args.epoch given c.collect.ensures.letters.gives.more c.requires.some (let fits : c.args.epoch < 2 ^ 64 = omega (arith, c.ranges.epoch.fits) in fits) counted (c.in_ok-stops.ensures.told (subst (λ (ps : List Posted). AreTold c.args.epoch c.args.cores.now ps (g.P.Power.asked c.args.power.now)) (sym c.round.ensures.sent) c.requires.told)).noes c.collect.ensures.letters.gives.gives))

pub returns-clause-lost : goal.returns-clause-lost
returns-clause-lost g c =
    λ lost. absurd (not_both (has_lost c.in_ok-stops.stops) lost (sym c.is_early.ensures ∙ c.if-is_early.false))

pub returns-clause-votes : goal.returns-clause-votes
returns-clause-votes g c =
    λ never more is same n less among.
    let gives = c.in_ok-round.ensures.ok in
    let risen = c.collect.ensures.letters.gives.faults_rise in
    let stays : (g.N.Net.faults c.round.new.self) ≡ (g.N.Net.faults c.args.net.now) = omega (arith, (gives_round c.round.result (g.N.Net.sent c.args.net.now) (g.N.Net.fresh c.args.net.now) (g.N.Net.waiting c.round.new.self) (g.N.Net.given c.args.net.now) (g.N.Net.faults c.args.net.now) (g.N.Net.last_seed c.args.net.now) (g.N.Net.given c.round.new.self) (g.N.Net.faults c.round.new.self) (g.N.Net.last_seed c.round.new.self) (g.N.Net.fresh c.round.new.self) c.round.ensures.ok c.round.ensures.faults c.round.ensures.err c.round.ensures.seed).faults_rise, risen, c.nodes_take.ensures.counts.faults_stay, same) in
    let still : (g.N.Net.faults c.collect.new.net) ≡ (g.N.Net.faults c.nodes_take.new.net) = omega (arith, same, stays, c.nodes_take.ensures.counts.faults_stay) in
    let le : n ≤ 8 = omega (arith, less, c.requires.few) in
    let given : Contains gives.0 (prepare_of n c.args.epoch) = fresh_given (g.N.Net.sent c.args.net.now) (g.N.Net.fresh c.args.net.now) (g.N.Net.faults c.args.net.now) (g.N.Net.faults c.round.new.self) (g.N.Net.waiting c.round.new.self) gives.0 (prepare_of n c.args.epoch) gives.2 stays among in
    let voted : Contains (g.N.Net.fresh c.nodes_take.new.net) (vote_of n c.args.epoch true) = c.in_ok-stops.ensures.votes never n less (prepare_of n c.args.epoch).letter
    (given_waits (g.N.Net.sent c.args.net.now) (g.N.Net.fresh c.args.net.now) (g.N.Net.faults c.args.net.now) (g.N.Net.faults c.round.new.self) (g.N.Net.waiting c.round.new.self) gives.0 gives.2 n le (prepare_of n c.args.epoch).letter given) (asked_from n c.args.epoch (let fits : c.args.epoch < 2 ^ 64 = omega (arith, c.ranges.epoch.fits) in fits)) in
    subst (λ (ps : List Posted). Contains ps (vote_of n c.args.epoch true)) (sym (since_both (g.N.Net.given c.args.net.now) (g.N.Net.given c.nodes_take.new.net) (g.N.Net.given c.collect.new.net) gives.0 c.collect.ensures.letters.gives.more more (c.nodes_take.ensures.counts.given_stays ∙ gives.1) c.collect.ensures.letters.gives.gives is))
    (Contains-append_right gives.0 c.collect.ensures.letters.gives.more (vote_of n c.args.epoch true) (c.in_ok-collect.ensures.gives c.collect.ensures.letters.gives.more (vote_of n c.args.epoch true) c.collect.ensures.letters.gives.gives still voted))

pub returns-clause-says : goal.returns-clause-says
returns-clause-says g c =
    adds_then (g.N.Net.sent c.args.net.now) (g.N.Net.sent c.nodes_take.new.net) (g.N.Net.sent c.collect.new.net)
    (subst (λ (ps : List Posted). Adds (IsOfVote c.args.epoch) ps (g.N.Net.sent c.nodes_take.new.net)) c.round.ensures.sent c.in_ok-stops.ensures.says)
    (adds_vote c.args.epoch (g.N.Net.sent c.nodes_take.new.net) (g.N.Net.sent c.collect.new.net) c.in_ok-collect.ensures.says)

pub returns-clause-files : goal.returns-clause-files
returns-clause-files g c k hold held may nodes logs rests =
    let one = c.in_ok-stops.ensures.files k hold held may nodes logs rests in
    record { keeps = one.keeps; ok = one.ok }

pub returns-clause-world : goal.returns-clause-world
returns-clause-world g c =
    between_then (PreparesOnly c.args.epoch) SameEntries (PreparesOnly c.args.epoch) (λ w v u one two. only_then c.args.epoch w v u one (only_same c.args.epoch v u two)) (g.P.Power.stopped c.args.power.now) (g.P.Power.stopped c.nodes_take.new.power) (g.P.Power.stopped c.nodes_take.new.power) (record { cores = c.args.cores.now; chief = chief_of c.args.chief.now; sent = (g.N.Net.sent c.args.net.now) }) (record { cores = c.nodes_take.new.cores; chief = chief_of c.args.chief.now; sent = (g.N.Net.sent c.nodes_take.new.net) }) (record { cores = c.nodes_take.new.cores; chief = chief_of c.collect.new.chief; sent = (g.N.Net.sent c.collect.new.net) })
    (subst (λ (ps : List Posted). GoesBetween (g.P.Power.stopped c.args.power.now) (g.P.Power.stopped c.nodes_take.new.power) (PreparesOnly c.args.epoch) (record { cores = c.args.cores.now; chief = chief_of c.args.chief.now; sent = ps }) (record { cores = c.nodes_take.new.cores; chief = chief_of c.args.chief.now; sent = (g.N.Net.sent c.nodes_take.new.net) })) c.round.ensures.sent (c.in_ok-stops.ensures.world (chief_of c.args.chief.now)))
    (between_on SameEntries SameEntries (g.P.Power.stopped c.nodes_take.new.power) (g.P.Power.stopped c.nodes_take.new.power) (record { cores = c.nodes_take.new.cores; chief = chief_of c.args.chief.now; sent = (g.N.Net.sent c.nodes_take.new.net) }) (record { cores = c.nodes_take.new.cores; chief = chief_of c.collect.new.chief; sent = (g.N.Net.sent c.collect.new.net) }) (λ w v _ same. same) (λ n lt. omega arith) (c.in_ok-collect.ensures.world c.nodes_take.new.cores))

pub returns-then-is_early-clause-were_sent : goal.returns-then-is_early-clause-were_sent
returns-then-is_early-clause-were_sent g c more p is among =
    let gives = c.in_ok-round.ensures.ok in
    let these : more ≡ gives.0 = given_since (g.N.Net.given c.args.net.now) (g.N.Net.given c.args.net.now) (g.N.Net.given c.round.new.self) (g.N.Net.given c.nodes_take.new.net) gives.0 more refl gives.1 c.nodes_take.ensures.counts.given_stays is in
    (sent_still (g.N.Net.sent c.args.net.now) (g.N.Net.sent c.round.new.self) (g.N.Net.fresh c.round.new.self) (g.N.Net.sent c.nodes_take.new.net) (g.N.Net.fresh c.nodes_take.new.net) p c.round.ensures.sent c.in_ok-stops.ensures.fresh (All-contains (Contains (g.N.Net.sent c.args.net.now)) gives.0 p gives.2.were_sent (subst (λ (ps : List Posted). Contains ps p) these among)))

pub returns-clause-were_sent : goal.returns-clause-were_sent
returns-clause-were_sent g c more p is among =
    let gives = c.in_ok-round.ensures.ok in
    elim (Contains-append_cases gives.0 c.collect.ensures.letters.gives.more p (subst (λ (ps : List Posted). Contains ps p) (since_both (g.N.Net.given c.args.net.now) (g.N.Net.given c.nodes_take.new.net) (g.N.Net.given c.collect.new.net) gives.0 c.collect.ensures.letters.gives.more more (c.nodes_take.ensures.counts.given_stays ∙ gives.1) c.collect.ensures.letters.gives.gives is) among)) [
      | inl first ↦ adds_left (g.N.Net.sent c.nodes_take.new.net) (g.N.Net.sent c.collect.new.net) p c.in_ok-collect.ensures.says (sent_still (g.N.Net.sent c.args.net.now) (g.N.Net.sent c.round.new.self) (g.N.Net.fresh c.round.new.self) (g.N.Net.sent c.nodes_take.new.net) (g.N.Net.fresh c.nodes_take.new.net) p c.round.ensures.sent c.in_ok-stops.ensures.fresh (All-contains (Contains (g.N.Net.sent c.args.net.now)) gives.0 p gives.2.were_sent first))
      | inr second ↦ c.in_ok-collect.ensures.were_sent c.collect.ensures.letters.gives.more p c.collect.ensures.letters.gives.gives second
    ]

pub returns-in_err-round-clause-rest : goal.returns-in_err-round-clause-rest
returns-in_err-round-clause-rest g c =
    rest_round c.args.voters.now c.args.host.now c.args.net.now c.round.new.self c.args.power.now c.round.result c.round.ensures.sent c.round.ensures.ok c.round.ensures.faults c.round.ensures.err c.round.ensures.seed

pub returns-in_err-stops-clause-rest : goal.returns-in_err-stops-clause-rest
returns-in_err-stops-clause-rest g c =
    rest_then (rest_round c.args.voters.now c.args.host.now c.args.net.now c.round.new.self c.args.power.now c.round.result c.round.ensures.sent c.round.ensures.ok c.round.ensures.faults c.round.ensures.err c.round.ensures.seed) c.nodes_take.ensures.rest

pub returns-then-is_early-clause-rest : goal.returns-then-is_early-clause-rest
returns-then-is_early-clause-rest g c =
    rest_then (rest_round c.args.voters.now c.args.host.now c.args.net.now c.round.new.self c.args.power.now c.round.result c.round.ensures.sent c.round.ensures.ok c.round.ensures.faults c.round.ensures.err c.round.ensures.seed) c.nodes_take.ensures.rest

pub returns-in_err-collect-clause-rest : goal.returns-in_err-collect-clause-rest
returns-in_err-collect-clause-rest g c =
    rest_then (rest_then (rest_round c.args.voters.now c.args.host.now c.args.net.now c.round.new.self c.args.power.now c.round.result c.round.ensures.sent c.round.ensures.ok c.round.ensures.faults c.round.ensures.err c.round.ensures.seed) c.nodes_take.ensures.rest) (rest_net c.nodes_take.new.voters c.nodes_take.new.host c.nodes_take.new.net c.collect.new.net c.nodes_take.new.power c.collect.ensures.letters)

pub returns-clause-rest : goal.returns-clause-rest
returns-clause-rest g c =
    rest_then (rest_then (rest_round c.args.voters.now c.args.host.now c.args.net.now c.round.new.self c.args.power.now c.round.result c.round.ensures.sent c.round.ensures.ok c.round.ensures.faults c.round.ensures.err c.round.ensures.seed) c.nodes_take.ensures.rest) (rest_net c.nodes_take.new.voters c.nodes_take.new.host c.nodes_take.new.net c.collect.new.net c.nodes_take.new.power c.collect.ensures.letters)
