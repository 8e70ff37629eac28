use Rattle.std.proofs.Common.{◌≡◌, ◌<◌, ◌≤◌, ◌^◌, List, length, arith, ap, subst, sym, refl, ◌∙◌}
use Rattle.std.proofs.lemmas.List.{length-map}
use Rattle.std.proofs.lemmas.Result.{err_from_is_err_and}
use Rattle.coco_chief.specs.Shown.{chief_of}
use Rattle.coco_letters.specs.Around.{Around, around, IsLater}
use Rattle.coco_letters.specs.GivingUp.{since}
use Rattle.coco_letters.specs.declared.voter.Voter.{Voter}
use Rattle.coco_vote.specs.Outcomes.{Comes}
use Rattle.coco_vote.specs.Preparing.{have_durable, Ballot, RestsVoted}
use Rattle.coco_vote.specs.Taking.{AreMarked, AreReady, KeepPlaces, StayWhole}
use Rattle.coco_vote.specs.declared.phase.Votes.{Votes}
use Rattle.coco_vote.specs.declared.phase.Votes.TheVariants.{All}
use Rattle.coco_vote.proofs.PreparingLemmas.{none_ok}
use Rattle.coco_vote.proofs.WholeLemmas.{all_whole_then}
use Rattle.coco_vote.proofs.VoterLemmas.{apart_still, held_still, logs_still}
use Rattle.coco_trial.specs.Voting.{unmarked}
use Rattle.coco_letters.proofs.TellingLemmas.{adds_then, adds_vote}
use Rattle.coco_trial.proofs.VoteLemmas.{all_vote, can_given_up, can_voted, cause_is, durable_given_up, given_is, new_given_up, open_still, rests_told, rest_unmarked, unmarked_marked, unmarked_places, unmarked_ready, unmarked_whole, voted_then}
use Rattle.coco_vote.proofs.KeepingLemmas.{rest_net, rest_then}
use Rattle.coco_trial.proofs.voting.decide.Goals as goal

pub prepare-requires-clause-voters : goal.prepare-requires-clause-voters
prepare-requires-clause-voters g c = ap length c.unmark.ensures ∙ length-map c.args.voters.now unmarked ∙ c.requires.voters

pub prepare-requires-clause-marked : goal.prepare-requires-clause-marked
prepare-requires-clause-marked g c = subst (λ (vs : List Voter). AreMarked vs (g.P.Power.asked c.args.power.now)) (sym c.unmark.ensures) (unmarked_marked c.args.voters.now (g.P.Power.asked c.args.power.now))

pub prepare-requires-clause-ready : goal.prepare-requires-clause-ready
prepare-requires-clause-ready g c = subst (λ (vs : List Voter). AreReady vs (g.H.Host.reads c.args.host.now) (g.H.Host.may_leave c.args.host.now)) (sym c.unmark.ensures) (unmarked_ready c.args.voters.now (g.H.Host.reads c.args.host.now) (g.H.Host.may_leave c.args.host.now) c.requires.ready)

pub prepare-requires-clause-apart : goal.prepare-requires-clause-apart
prepare-requires-clause-apart g c = apart_still c.args.voters.now c.unmark.new.voters (subst (KeepPlaces c.args.voters.now) (sym c.unmark.ensures) (unmarked_places c.args.voters.now)) c.requires.apart

-- ---- without memory, or with a fault of the disk

pub returns-in_err-votes-clause-files : goal.returns-in_err-votes-clause-files
returns-in_err-votes-clause-files g c k hold held may nodes logs rests =
    let b : Ballot = record { epoch = c.args.epoch; pieces = c.args.pieces.now; held = hold } in
    let places : KeepPlaces c.args.voters.now c.unmark.new.voters = subst (KeepPlaces c.args.voters.now) (sym c.unmark.ensures) (unmarked_places c.args.voters.now) in
    let p = err_from_is_err_and c.from_residual.result c.from_residual.ensures.1 in
    record {
      keeps = (c.prepare.ensures.files k hold (held_still hold c.args.voters.now c.unmark.new.voters places held) may nodes (logs_still k c.args.voters.now c.unmark.new.voters places logs) rests).keeps;
      ok = none_ok c.from_residual.result p.0 (RestsVoted k b (have_durable c.args.epoch c.prepare.new.cores) (g.H.Host.reads c.prepare.new.host) (g.H.Host.may_leave c.prepare.new.host)) p.1;
    }

pub returns-then-is_all-clause-comes : goal.returns-then-is_all-clause-comes
returns-then-is_all-clause-comes g c =
    let a : Around = around g.N.Net g.P.Power c.args.net.now c.args.power.now in
    let b : Around = around g.N.Net g.P.Power c.prepare.new.net c.prepare.new.power in
    let given = given_is (g.N.Net.given c.args.net.now) (g.N.Net.faults c.args.net.now) (g.N.Net.last_seed c.args.net.now) (g.N.Net.given c.prepare.new.net) (g.N.Net.faults c.prepare.new.net) (g.N.Net.last_seed c.prepare.new.net) c.prepare.ensures.rest.letters.gives in
    let few : length c.prepare.new.cores ≤ 8 = omega (arith, c.requires.few, c.prepare.auto.cores) in
    let nodes : (chief_of c.prepare.new.chief).nodes ≡ length c.prepare.new.cores = omega (arith, c.prepare.ensures.nodes, c.requires.nodes, c.prepare.auto.cores) in
    let all : c.in_ok-votes.votes ≡ All = c.is_all.ensures.all c.if-is_all.true in
    all_vote c.args.epoch c.prepare.new.cores (chief_of c.prepare.new.chief) a b a.early b.early a.faults b.faults few nodes refl refl
    (subst (λ (v : Votes). Comes v c.args.epoch c.prepare.new.cores (chief_of c.prepare.new.chief) (since a.given b.given) a.faults b.faults a.early b.early) all (c.in_ok-votes.ensures.answer (since a.given b.given) given))
    c.in_ok-votes.ensures.told (λ p among. c.in_ok-votes.ensures.were_sent (since a.given b.given) p given among)

pub returns-then-is_all-clause-can : goal.returns-then-is_all-clause-can
returns-then-is_all-clause-can g c e less can = can_voted e c.args.epoch c.args.cores.now c.prepare.new.cores less (let many : length c.prepare.new.cores ≡ length c.args.cores.now = omega (arith, c.prepare.auto.cores) in many) c.in_ok-votes.ensures.cores can

pub returns-then-is_all-clause-files : goal.returns-then-is_all-clause-files
returns-then-is_all-clause-files g c k hold held may nodes logs rests =
    let b : Ballot = record { epoch = c.args.epoch; pieces = c.args.pieces.now; held = hold } in
    let places : KeepPlaces c.args.voters.now c.unmark.new.voters = subst (KeepPlaces c.args.voters.now) (sym c.unmark.ensures) (unmarked_places c.args.voters.now) in
    let kept = c.in_ok-votes.ensures.files k hold (held_still hold c.args.voters.now c.unmark.new.voters places held) may nodes (logs_still k c.args.voters.now c.unmark.new.voters places logs) rests in
    record { keeps = kept.keeps; ok = kept.ok }

pub give_up-requires-clause-nodes : goal.give_up-requires-clause-nodes
give_up-requires-clause-nodes g c = let nodes : (chief_of c.prepare.new.chief).nodes ≡ length c.prepare.new.cores = omega (arith, c.prepare.ensures.nodes, c.requires.nodes, c.prepare.auto.cores) in nodes

pub give_up-requires-clause-current : goal.give_up-requires-clause-current
give_up-requires-clause-current g c =
    let a : Around = around g.N.Net g.P.Power c.args.net.now c.args.power.now in
    let b : Around = around g.N.Net g.P.Power c.prepare.new.net c.prepare.new.power in
    let given = given_is (g.N.Net.given c.args.net.now) (g.N.Net.faults c.args.net.now) (g.N.Net.last_seed c.args.net.now) (g.N.Net.given c.prepare.new.net) (g.N.Net.faults c.prepare.new.net) (g.N.Net.last_seed c.prepare.new.net) c.prepare.ensures.rest.letters.gives in
    (open_still c.in_ok-votes.votes c.args.epoch c.prepare.new.cores (chief_of c.prepare.new.chief) (since a.given b.given) a.faults b.faults a.early b.early (c.is_all.ensures.others c.if-is_all.false) (c.in_ok-votes.ensures.answer (since a.given b.given) given)).current

pub give_up-requires-clause-undecided : goal.give_up-requires-clause-undecided
give_up-requires-clause-undecided g c =
    let a : Around = around g.N.Net g.P.Power c.args.net.now c.args.power.now in
    let b : Around = around g.N.Net g.P.Power c.prepare.new.net c.prepare.new.power in
    let given = given_is (g.N.Net.given c.args.net.now) (g.N.Net.faults c.args.net.now) (g.N.Net.last_seed c.args.net.now) (g.N.Net.given c.prepare.new.net) (g.N.Net.faults c.prepare.new.net) (g.N.Net.last_seed c.prepare.new.net) c.prepare.ensures.rest.letters.gives in
    (open_still c.in_ok-votes.votes c.args.epoch c.prepare.new.cores (chief_of c.prepare.new.chief) (since a.given b.given) a.faults b.faults a.early b.early (c.is_all.ensures.others c.if-is_all.false) (c.in_ok-votes.ensures.answer (since a.given b.given) given)).undecided

pub returns-in_err-give_up-clause-nodes : goal.returns-in_err-give_up-clause-nodes
returns-in_err-give_up-clause-nodes g c = c.give_up.ensures.nodes ∙ c.prepare.ensures.nodes

pub returns-in_err-give_up-clause-files : goal.returns-in_err-give_up-clause-files
returns-in_err-give_up-clause-files g c k hold held may nodes logs rests =
    let b : Ballot = record { epoch = c.args.epoch; pieces = c.args.pieces.now; held = hold } in
    let places : KeepPlaces c.args.voters.now c.unmark.new.voters = subst (KeepPlaces c.args.voters.now) (sym c.unmark.ensures) (unmarked_places c.args.voters.now) in
    let p = err_from_is_err_and c.from_residual-in_err-give_up.result c.from_residual-in_err-give_up.ensures.1 in
    record {
      keeps = (c.in_ok-votes.ensures.files k hold (held_still hold c.args.voters.now c.unmark.new.voters places held) may nodes (logs_still k c.args.voters.now c.unmark.new.voters places logs) rests).keeps;
      ok = none_ok c.from_residual-in_err-give_up.result p.0 (RestsVoted k b (have_durable c.args.epoch c.give_up.new.cores) (g.H.Host.reads c.prepare.new.host) (g.H.Host.may_leave c.prepare.new.host)) p.1;
    }

pub returns-clause-comes : goal.returns-clause-comes
returns-clause-comes g c =
    let a : Around = around g.N.Net g.P.Power c.args.net.now c.args.power.now in
    let m : Around = around g.N.Net g.P.Power c.prepare.new.net c.prepare.new.power in
    let b : Around = around g.N.Net g.P.Power c.give_up.new.net c.prepare.new.power in
    let given = given_is (g.N.Net.given c.args.net.now) (g.N.Net.faults c.args.net.now) (g.N.Net.last_seed c.args.net.now) (g.N.Net.given c.prepare.new.net) (g.N.Net.faults c.prepare.new.net) (g.N.Net.last_seed c.prepare.new.net) c.prepare.ensures.rest.letters.gives in
    let says = c.in_ok-votes.ensures.says in
    let fits : c.args.epoch < 2 ^ 64 = omega (arith, c.ranges.epoch.fits) in
    let first : IsLater a m = record { sent = (says.posts, says.sent_is); given = (c.prepare.ensures.rest.letters.gives.more, c.prepare.ensures.rest.letters.gives.gives); faults = c.prepare.ensures.rest.letters.gives.faults_rise; early = c.prepare.ensures.rest.later.early_rises; seed = c.prepare.ensures.rest.letters.gives.seed_stays } in
    let next : IsLater m b = record { sent = (c.in_ok-give_up.ensures.said.posts, c.in_ok-give_up.ensures.said.sent_is); given = (c.give_up.ensures.letters.gives.more, c.give_up.ensures.letters.gives.gives); faults = c.give_up.ensures.letters.gives.faults_rise; early = omega arith; seed = c.give_up.ensures.letters.gives.seed_stays } in
    record {
      phase = c.in_ok-give_up.ensures.rest;
      current = c.in_ok-give_up.ensures.current;
      new = new_given_up c.args.epoch c.args.cores.now c.prepare.new.cores c.give_up.new.cores c.in_ok-votes.ensures.cores c.in_ok-give_up.ensures.give_up;
      cause = cause_is c.in_ok-votes.votes c.args.epoch c.prepare.new.cores (chief_of c.prepare.new.chief) a m b says.posts fits (c.is_all.ensures.others c.if-is_all.false) first next says.sent_is
          (λ n less. c.in_ok-votes.ensures.asked says.posts says.sent_is n (omega (arith, less, c.prepare.ensures.nodes, c.requires.nodes))) (c.in_ok-votes.ensures.answer (since a.given m.given) given);
    }

pub returns-clause-can : goal.returns-clause-can
returns-clause-can g c e less can = can_given_up e c.args.epoch c.prepare.new.cores c.give_up.new.cores less c.in_ok-give_up.ensures.give_up (can_voted e c.args.epoch c.args.cores.now c.prepare.new.cores less (let many : length c.prepare.new.cores ≡ length c.args.cores.now = omega (arith, c.prepare.auto.cores) in many) c.in_ok-votes.ensures.cores can)

pub returns-clause-nodes : goal.returns-clause-nodes
returns-clause-nodes g c = c.give_up.ensures.nodes ∙ c.prepare.ensures.nodes

pub returns-clause-last : goal.returns-clause-last
returns-clause-last g c = c.in_ok-give_up.ensures.last ∙ c.in_ok-votes.ensures.last

pub returns-clause-committed : goal.returns-clause-committed
returns-clause-committed g c = c.in_ok-give_up.ensures.committed ∙ c.in_ok-votes.ensures.committed

pub returns-clause-says : goal.returns-clause-says
returns-clause-says g c = adds_then (g.N.Net.sent c.args.net.now) (g.N.Net.sent c.prepare.new.net) (g.N.Net.sent c.give_up.new.net) c.in_ok-votes.ensures.says (adds_vote c.args.epoch (g.N.Net.sent c.prepare.new.net) (g.N.Net.sent c.give_up.new.net) c.in_ok-give_up.ensures.said)

pub returns-clause-files : goal.returns-clause-files
returns-clause-files g c k hold held may nodes logs rests =
    let b : Ballot = record { epoch = c.args.epoch; pieces = c.args.pieces.now; held = hold } in
    let places : KeepPlaces c.args.voters.now c.unmark.new.voters = subst (KeepPlaces c.args.voters.now) (sym c.unmark.ensures) (unmarked_places c.args.voters.now) in
    let kept = c.in_ok-votes.ensures.files k hold (held_still hold c.args.voters.now c.unmark.new.voters places held) may nodes (logs_still k c.args.voters.now c.unmark.new.voters places logs) rests in
    record {
      keeps = kept.keeps;
      ok = rests_told k b (have_durable c.args.epoch c.prepare.new.cores) (have_durable c.args.epoch c.give_up.new.cores) (g.H.Host.reads c.prepare.new.host) (g.H.Host.may_leave c.prepare.new.host) (durable_given_up c.args.epoch c.prepare.new.cores c.give_up.new.cores c.in_ok-give_up.ensures.give_up) kept.ok;
    }

pub returns-clause-world : goal.returns-clause-world
returns-clause-world g c =
    voted_then c.args.epoch (g.P.Power.stopped c.args.power.now) (g.P.Power.stopped c.prepare.new.power) (record { cores = c.args.cores.now; chief = chief_of c.args.chief.now; sent = g.N.Net.sent c.args.net.now }) (record { cores = c.prepare.new.cores; chief = chief_of c.prepare.new.chief; sent = g.N.Net.sent c.prepare.new.net }) (record { cores = c.give_up.new.cores; chief = chief_of c.give_up.new.chief; sent = g.N.Net.sent c.give_up.new.net })
    c.in_ok-votes.ensures.world c.in_ok-give_up.ensures.world

pub returns-then-is_all-clause-whole : goal.returns-then-is_all-clause-whole
returns-then-is_all-clause-whole g c = all_whole_then (g.P.Power.stops_seen c.args.power.now) (g.P.Power.stops_seen c.args.power.now) (g.P.Power.stops_seen c.prepare.new.power) c.args.voters.now c.unmark.new.voters c.prepare.new.voters (omega arith) c.prepare.ensures.rest.later.seen_rises (subst (StayWhole (g.P.Power.stops_seen c.args.power.now) (g.P.Power.stops_seen c.args.power.now) c.args.voters.now) (sym c.unmark.ensures) (unmarked_whole (g.P.Power.stops_seen c.args.power.now) c.args.voters.now)) c.in_ok-votes.ensures.whole

pub returns-clause-whole : goal.returns-clause-whole
returns-clause-whole g c = all_whole_then (g.P.Power.stops_seen c.args.power.now) (g.P.Power.stops_seen c.args.power.now) (g.P.Power.stops_seen c.prepare.new.power) c.args.voters.now c.unmark.new.voters c.prepare.new.voters (omega arith) c.prepare.ensures.rest.later.seen_rises (subst (StayWhole (g.P.Power.stops_seen c.args.power.now) (g.P.Power.stops_seen c.args.power.now) c.args.voters.now) (sym c.unmark.ensures) (unmarked_whole (g.P.Power.stops_seen c.args.power.now) c.args.voters.now)) c.in_ok-votes.ensures.whole

pub returns-in_err-votes-clause-rest : goal.returns-in_err-votes-clause-rest
returns-in_err-votes-clause-rest g c = rest_then (rest_unmarked c.args.voters.now c.unmark.new.voters c.args.host.now c.args.net.now c.args.power.now c.unmark.ensures) c.prepare.ensures.rest

pub returns-then-is_all-clause-rest : goal.returns-then-is_all-clause-rest
returns-then-is_all-clause-rest g c = rest_then (rest_unmarked c.args.voters.now c.unmark.new.voters c.args.host.now c.args.net.now c.args.power.now c.unmark.ensures) c.prepare.ensures.rest

pub returns-in_err-give_up-clause-rest : goal.returns-in_err-give_up-clause-rest
returns-in_err-give_up-clause-rest g c =
    rest_then (rest_then (rest_unmarked c.args.voters.now c.unmark.new.voters c.args.host.now c.args.net.now c.args.power.now c.unmark.ensures) c.prepare.ensures.rest)
    (rest_net c.prepare.new.voters c.prepare.new.host c.prepare.new.net c.give_up.new.net c.prepare.new.power c.give_up.ensures.letters)

pub returns-clause-rest : goal.returns-clause-rest
returns-clause-rest g c =
    rest_then (rest_then (rest_unmarked c.args.voters.now c.unmark.new.voters c.args.host.now c.args.net.now c.args.power.now c.unmark.ensures) c.prepare.ensures.rest)
    (rest_net c.prepare.new.voters c.prepare.new.host c.prepare.new.net c.give_up.new.net c.prepare.new.power c.give_up.ensures.letters)
