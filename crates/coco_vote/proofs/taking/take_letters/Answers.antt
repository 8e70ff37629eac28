use Rattle.std.proofs.Common.{◌≡◌, ◌≤◌, List, ◌∷◌, ap, arith, false, inl, refl, subst, sym, true, ◌∙◌}
use Rattle.std.proofs.lemmas.Result.{err_from_is_err_and}
use Rattle.coco_net.specs.declared.letter.Letter.{Letter}
use Rattle.coco_net.specs.declared.letter.Posted.{Posted}
use Rattle.coco_letters.specs.Telling.{Adds, IsOfVote}
use Rattle.coco_letters.specs.Turns.{AreSent}
use Rattle.coco_letters.proofs.HearingLemmas.{counts_then, fresh_none}
use Rattle.coco_vote.specs.Nearing.{ahead_of, Nears}
use Rattle.coco_vote.specs.Preparing.{have_durable, Ballot, RestsVoted}
use Rattle.std.specs.List.{Contains}
use Rattle.coco_letters.specs.Worlds.{GoesBetween}
use Rattle.coco_vote.specs.Taking.{has_lost, vote_of, AreTold, AreVoting, CountsStops, UnlessLost}
use Rattle.coco_vote.specs.Voting.{PreparesOnly}
use Rattle.coco_vote.proofs.PlaceLemmas.{held_items}
use Rattle.coco_vote.proofs.NearLemmas.{nears_both}
use Rattle.coco_vote.proofs.PowerLemmas.{later_same, later_then}
use Rattle.coco_vote.proofs.PreparingLemmas.{keeps_same, keeps_then, none_ok}
use Rattle.coco_letters.proofs.TellingLemmas.{adds_same, adds_then}
use Rattle.coco_letters.proofs.WorldLemmas.{between_then}
use Rattle.coco_vote.proofs.StepLemmas.{between_none, fresh_then, only_same, only_then}
use Rattle.coco_vote.proofs.StopLemmas.{counts_both, never_lost, sent_more, stops_at, unless_both, unless_kept}
use Rattle.coco_vote.proofs.TakingLemmas.{cores_then, cores_voting, fresh_still, given_all, votes_more, knows_same}
use Rattle.coco_vote.proofs.WholeLemmas.{whole_then}
use Rattle.coco_vote.proofs.KeepingLemmas.{writes_none, writes_then}
use Rattle.coco_vote.proofs.taking.take_letters.Goals as goal

pub loop-net-init : goal.loop-net-init
loop-net-init g c = record {
  voting = c.requires.voting;
  cores = cores_voting c.args.epoch c.args.cores.now c.args.cores.now c.requires.voting (λ n. refl) (knows_same c.args.cores.now c.args.cores.now refl);
  told = λ told. told;
  marked = c.requires.marked;
  held = refl;
  whole = λ same. refl;
  nears = omega arith;
  elsewhere = λ m other. refl;
  votes = λ _ letter among _. inl among;
  says = adds_same (g.N.Net.sent c.args.net.now);
  sent = c.requires.sent;
  files = λ k hold same may node log rests.
      let b : Ballot = record { epoch = c.args.epoch; pieces = c.args.pieces.now; held = hold } in
      (keeps_same g.H.Host k b g.met.H.Host.only_now (have_durable c.args.epoch c.args.cores.now) c.args.host.now rests, rests);
  stands = c.requires.stands;
  unspent = c.requires.unspent;
  rest = writes_none c.args.voter.now.log c.args.voter.now.log c.args.host.now refl;
  disk = refl;
  world = λ chief. between_none (g.P.Power.stopped c.args.power.now) (g.P.Power.stopped c.args.power.now) (λ n lt. omega arith) (PreparesOnly c.args.epoch) (record { cores = c.args.cores.now; chief = chief; sent = g.N.Net.sent c.args.net.now }) (only_same c.args.epoch);
  later = later_same g.P.Power c.args.power.now;
  stops = (refl, refl);
  fresh = fresh_none (g.N.Net.sent c.args.net.now) (g.N.Net.fresh c.args.net.now);
  waiting = λ p other. refl;
  counts = record { given_stays = refl; faults_stay = refl; seed_stays = refl };
}

pub take_letter-requires-clause-sent : goal.take_letter-requires-clause-sent
take_letter-requires-clause-sent g c =
    let before = c.loop-net.invariant in
    let le : c.args.node ≤ 8 = omega (arith, c.requires.few, c.requires.node) in
    subst (λ (ps : List Posted). Contains ps (record { to = c.args.node; letter = c.in-Some.letter })) (sym c.next.ensures.sent)
    (c.waiting_letters_were_sent.ensures.letter (g.N.Net.sent c.loop-net.net) (g.N.Net.waiting c.loop-net.net) (g.N.Net.waiting c.next.new.self) c.args.node c.in-Some.letter le before.sent c.in-Some.ensures.first)

pub take_letter-requires-clause-voting : goal.take_letter-requires-clause-voting
take_letter-requires-clause-voting g c =
    let before = c.loop-net.invariant in
    let going : has_lost c.loop-net.stops ≡ false = sym c.is_early.ensures ∙ c.loop-net-test.true in
    unless_kept c.loop-net.stops (AreVoting c.args.epoch c.loop-net.cores) going before.voting

pub take_letter-requires-clause-marked : goal.take_letter-requires-clause-marked
take_letter-requires-clause-marked g c = c.loop-net.invariant.marked

pub take_letter-requires-clause-unspent : goal.take_letter-requires-clause-unspent
take_letter-requires-clause-unspent g c = c.loop-net.invariant.unspent

pub take_letter-requires-clause-stands : goal.take_letter-requires-clause-stands
take_letter-requires-clause-stands g c = c.loop-net.invariant.stands

pub loop-net-preserved : goal.loop-net-preserved
loop-net-preserved g c =
    let before = c.loop-net.invariant in
    let going : has_lost c.loop-net.stops ≡ false = sym c.is_early.ensures ∙ c.loop-net-test.true in
    let taken = c.in_ok-taken-in-Some.taken in
    let both = c.and-stops.ensures in
    record {
      voting = stops_at c.and-stops.result c.loop-net.stops taken (λ stops. UnlessLost stops (AreVoting c.args.epoch c.take_letter.new.cores)) both (unless_both c.loop-net.stops taken (AreVoting c.args.epoch c.take_letter.new.cores) going c.in_ok-taken-in-Some.ensures.voting);
      cores = cores_then c.args.epoch c.args.cores.now c.loop-net.cores c.take_letter.new.cores before.cores c.in_ok-taken-in-Some.ensures.cores;
      told = λ told. c.in_ok-taken-in-Some.ensures.told (subst (λ (ps : List Posted). AreTold c.args.epoch c.loop-net.cores ps (g.P.Power.asked c.loop-net.power)) (sym c.next.ensures.sent) (before.told told));
      marked = c.in_ok-taken-in-Some.ensures.marked;
      held = c.take_letter.ensures.held ∙ before.held;
      whole = whole_then (g.P.Power.stops_seen c.args.power.now) (g.P.Power.stops_seen c.loop-net.power) (g.P.Power.stops_seen c.take_letter.new.power) c.args.voter.now c.loop-net.voter c.take_letter.new.voter before.later.seen_rises c.take_letter.ensures.later.seen_rises before.whole c.in_ok-taken-in-Some.ensures.whole;
      nears = stops_at c.and-stops.result c.loop-net.stops taken (λ stops. Nears stops (ahead_of c.args.epoch c.args.cores.now c.args.node c.args.voter.now) (ahead_of c.args.epoch c.take_letter.new.cores c.args.node c.take_letter.new.voter)) both
          (nears_both c.loop-net.stops taken (ahead_of c.args.epoch c.args.cores.now c.args.node c.args.voter.now) (ahead_of c.args.epoch c.loop-net.cores c.args.node c.loop-net.voter) (ahead_of c.args.epoch c.take_letter.new.cores c.args.node c.take_letter.new.voter) before.nears c.in_ok-taken-in-Some.ensures.nears);
      elsewhere = λ m other. c.in_ok-taken-in-Some.ensures.elsewhere m other ∙ before.elsewhere m other;
      votes = λ never. votes_more c.args.node c.args.epoch c.loop-net.stops taken ((g.N.Net.waiting c.args.net.now) c.args.node) ((g.N.Net.waiting c.loop-net.net) c.args.node) ((g.N.Net.waiting c.take_letter.new.net) c.args.node) c.in-Some.letter (g.N.Net.fresh c.loop-net.net) (g.N.Net.fresh c.take_letter.new.net) (c.in-Some.ensures.first ∙ ap (λ (ls : List Letter). c.in-Some.letter ∷ ls) (sym (c.take_letter.ensures.sends.waiting c.args.node))) before.votes c.in_ok-taken-in-Some.ensures.votes
          (λ among. fresh_still (g.N.Net.sent c.next.new.self) (g.N.Net.fresh c.next.new.self) (g.N.Net.sent c.take_letter.new.net) (g.N.Net.fresh c.take_letter.new.net) (vote_of c.args.node c.args.epoch true) c.in_ok-taken-in-Some.ensures.sends.fresh (subst (λ (ps : List Posted). Contains ps (vote_of c.args.node c.args.epoch true)) (sym c.next.ensures.fresh) among))
          (sym both ∙ never);
      says = adds_then (g.N.Net.sent c.args.net.now) (g.N.Net.sent c.loop-net.net) (g.N.Net.sent c.take_letter.new.net) before.says
          (subst (λ (ps : List Posted). Adds (IsOfVote c.args.epoch) ps (g.N.Net.sent c.take_letter.new.net)) c.next.ensures.sent c.in_ok-taken-in-Some.ensures.says);
      sent = sent_more (g.N.Net.sent c.next.new.self) (g.N.Net.fresh c.next.new.self) (g.N.Net.sent c.take_letter.new.net) (g.N.Net.fresh c.take_letter.new.net) (g.N.Net.waiting c.next.new.self) (g.N.Net.waiting c.take_letter.new.net) c.in_ok-taken-in-Some.ensures.sends.fresh c.take_letter.ensures.sends.waiting (subst (λ (ps : List Posted). AreSent ps (g.N.Net.waiting c.next.new.self)) (sym c.next.ensures.sent) (c.waiting_letters_were_sent.ensures.taken (g.N.Net.sent c.loop-net.net) (g.N.Net.waiting c.loop-net.net) (g.N.Net.waiting c.next.new.self) c.args.node c.next.result before.sent c.next.ensures.first c.next.ensures.others));
      files = λ k hold same may node log rests.
          let b : Ballot = record { epoch = c.args.epoch; pieces = c.args.pieces.now; held = hold } in
          let one = before.files k hold same may node log rests in
          (keeps_then g.H.Host k b c.args.host.now c.loop-net.host c.take_letter.new.host one.0 (c.take_letter.ensures.files k hold (same ∙ sym (held_items c.loop-net.voter c.args.voter.now before.held)) may node (record { file = before.rest.file ∙ log.file; kind = before.rest.kind ∙ log.kind }) one.1).keeps, (c.in_ok-taken-in-Some.ensures.files k hold (same ∙ sym (held_items c.loop-net.voter c.args.voter.now before.held)) may node (record { file = before.rest.file ∙ log.file; kind = before.rest.kind ∙ log.kind }) one.1).ok);
      stands = c.in_ok-taken-in-Some.ensures.stands;
      unspent = c.in_ok-taken-in-Some.ensures.unspent;
      rest = writes_then before.rest c.take_letter.ensures.rest;
      disk = c.in_ok-taken-in-Some.ensures.disk ∙ before.disk;
      world = λ chief. between_then (PreparesOnly c.args.epoch) (PreparesOnly c.args.epoch) (PreparesOnly c.args.epoch) (only_then c.args.epoch) (g.P.Power.stopped c.args.power.now) (g.P.Power.stopped c.loop-net.power) (g.P.Power.stopped c.take_letter.new.power) (record { cores = c.args.cores.now; chief = chief; sent = g.N.Net.sent c.args.net.now }) (record { cores = c.loop-net.cores; chief = chief; sent = g.N.Net.sent c.loop-net.net }) (record { cores = c.take_letter.new.cores; chief = chief; sent = g.N.Net.sent c.take_letter.new.net }) (before.world chief)
          (subst (λ (ps : List Posted). GoesBetween (g.P.Power.stopped c.loop-net.power) (g.P.Power.stopped c.take_letter.new.power) (PreparesOnly c.args.epoch) (record { cores = c.loop-net.cores; chief = chief; sent = ps }) (record { cores = c.take_letter.new.cores; chief = chief; sent = g.N.Net.sent c.take_letter.new.net })) c.next.ensures.sent (c.in_ok-taken-in-Some.ensures.world chief));
      later = later_then g.P.Power c.args.power.now c.loop-net.power c.take_letter.new.power before.later c.take_letter.ensures.later;
      stops = stops_at c.and-stops.result c.loop-net.stops taken (λ stops. CountsStops stops (g.P.Power.stops_seen c.args.power.now) (g.P.Power.early_stops c.args.power.now) (g.P.Power.stops_seen c.take_letter.new.power) (g.P.Power.early_stops c.take_letter.new.power)) both
          (counts_both c.loop-net.stops taken (g.P.Power.stops_seen c.args.power.now) (g.P.Power.early_stops c.args.power.now) (g.P.Power.stops_seen c.loop-net.power) (g.P.Power.early_stops c.loop-net.power) (g.P.Power.stops_seen c.take_letter.new.power) (g.P.Power.early_stops c.take_letter.new.power) before.stops c.in_ok-taken-in-Some.ensures.stops);
      fresh = fresh_then (g.N.Net.sent c.args.net.now) (g.N.Net.fresh c.args.net.now) (g.N.Net.sent c.next.new.self) (g.N.Net.fresh c.next.new.self) (g.N.Net.sent c.take_letter.new.net) (g.N.Net.fresh c.take_letter.new.net) (record { posts = before.fresh.posts; sent_is = c.next.ensures.sent ∙ before.fresh.sent_is; fresh_is = c.next.ensures.fresh ∙ before.fresh.fresh_is }) c.in_ok-taken-in-Some.ensures.sends.fresh;
      waiting = λ p other. c.take_letter.ensures.sends.waiting p ∙ c.next.ensures.others p other ∙ before.waiting p other;
      counts = counts_then (g.N.Net.given c.args.net.now) (g.N.Net.faults c.args.net.now) (g.N.Net.last_seed c.args.net.now) (g.N.Net.given c.next.new.self) (g.N.Net.faults c.next.new.self) (g.N.Net.last_seed c.next.new.self) (g.N.Net.given c.take_letter.new.net) (g.N.Net.faults c.take_letter.new.net) (g.N.Net.last_seed c.take_letter.new.net) (record { given_stays = c.next.ensures.given ∙ before.counts.given_stays; faults_stay = c.next.ensures.faults ∙ before.counts.faults_stay; seed_stays = c.next.ensures.seed ∙ before.counts.seed_stays }) c.take_letter.ensures.sends.counts;
    }

pub returns-in_err-taken-in-Some-clause-held : goal.returns-in_err-taken-in-Some-clause-held
returns-in_err-taken-in-Some-clause-held g c =
    let before = c.loop-net.invariant in
    c.take_letter.ensures.held ∙ before.held

pub returns-in_err-taken-in-Some-clause-files : goal.returns-in_err-taken-in-Some-clause-files
returns-in_err-taken-in-Some-clause-files g c k hold same may node log rests =
    let before = c.loop-net.invariant in
    let b : Ballot = record { epoch = c.args.epoch; pieces = c.args.pieces.now; held = hold } in
    let p = err_from_is_err_and c.from_residual.result c.from_residual.ensures.1 in
    let one = before.files k hold same may node log rests in
    record {
      keeps = keeps_then g.H.Host k b c.args.host.now c.loop-net.host c.take_letter.new.host one.0 (c.take_letter.ensures.files k hold (same ∙ sym (held_items c.loop-net.voter c.args.voter.now before.held)) may node (record { file = before.rest.file ∙ log.file; kind = before.rest.kind ∙ log.kind }) one.1).keeps;
      ok = none_ok c.from_residual.result p.0 (RestsVoted k b (have_durable c.args.epoch c.take_letter.new.cores) (g.H.Host.reads c.take_letter.new.host) (g.H.Host.may_leave c.take_letter.new.host)) p.1;
    }

pub returns-in_err-taken-in-Some-clause-later : goal.returns-in_err-taken-in-Some-clause-later
returns-in_err-taken-in-Some-clause-later g c =
    let before = c.loop-net.invariant in
    later_then g.P.Power c.args.power.now c.loop-net.power c.take_letter.new.power before.later c.take_letter.ensures.later

pub returns-in_err-taken-in-Some-clause-waiting : goal.returns-in_err-taken-in-Some-clause-waiting
returns-in_err-taken-in-Some-clause-waiting g c =
    let before = c.loop-net.invariant in
    λ p other. c.take_letter.ensures.sends.waiting p ∙ c.next.ensures.others p other ∙ before.waiting p other

pub returns-in_err-taken-in-Some-clause-counts : goal.returns-in_err-taken-in-Some-clause-counts
returns-in_err-taken-in-Some-clause-counts g c =
    let before = c.loop-net.invariant in
    counts_then (g.N.Net.given c.args.net.now) (g.N.Net.faults c.args.net.now) (g.N.Net.last_seed c.args.net.now) (g.N.Net.given c.next.new.self) (g.N.Net.faults c.next.new.self) (g.N.Net.last_seed c.next.new.self) (g.N.Net.given c.take_letter.new.net) (g.N.Net.faults c.take_letter.new.net) (g.N.Net.last_seed c.take_letter.new.net) (record { given_stays = c.next.ensures.given ∙ before.counts.given_stays; faults_stay = c.next.ensures.faults ∙ before.counts.faults_stay; seed_stays = c.next.ensures.seed ∙ before.counts.seed_stays }) c.take_letter.ensures.sends.counts

pub returns-in-None-clause-votes : goal.returns-in-None-clause-votes
returns-in-None-clause-votes g c =
    let before = c.loop-net.invariant in
    λ never. given_all c.args.node c.args.epoch ((g.N.Net.waiting c.args.net.now) c.args.node) ((g.N.Net.waiting c.loop-net.net) c.args.node) (g.N.Net.fresh c.loop-net.net) (g.N.Net.fresh c.next.new.self) c.in-None.ensures.first.0 c.next.ensures.fresh (before.votes never)

pub returns-in-None-clause-sent : goal.returns-in-None-clause-sent
returns-in-None-clause-sent g c =
    let before = c.loop-net.invariant in
    (subst (λ (ps : List Posted). AreSent ps (g.N.Net.waiting c.next.new.self)) (sym c.next.ensures.sent) (c.waiting_letters_were_sent.ensures.taken (g.N.Net.sent c.loop-net.net) (g.N.Net.waiting c.loop-net.net) (g.N.Net.waiting c.next.new.self) c.args.node c.next.result before.sent c.next.ensures.first c.next.ensures.others))

pub returns-in-None-clause-files : goal.returns-in-None-clause-files
returns-in-None-clause-files g c k hold same may node log rests =
    let before = c.loop-net.invariant in
    let one = before.files k hold same may node log rests in
    record { keeps = one.0; ok = one.1 }

pub returns-clause-files : goal.returns-clause-files
returns-clause-files g c k hold same may node log rests =
    let before = c.loop-net.invariant in
    let one = before.files k hold same may node log rests in
    record { keeps = one.0; ok = one.1 }

pub returns-clause-votes : goal.returns-clause-votes
returns-clause-votes g c = λ never. absurd (never_lost c.loop-net.stops never (sym c.is_early.ensures ∙ c.loop-net-test.false))

pub returns-in_err-taken-in-Some-clause-fresh : goal.returns-in_err-taken-in-Some-clause-fresh
returns-in_err-taken-in-Some-clause-fresh g c =
    let before = c.loop-net.invariant in
    fresh_then (g.N.Net.sent c.args.net.now) (g.N.Net.fresh c.args.net.now) (g.N.Net.sent c.next.new.self) (g.N.Net.fresh c.next.new.self) (g.N.Net.sent c.take_letter.new.net) (g.N.Net.fresh c.take_letter.new.net) (record { posts = before.fresh.posts; sent_is = c.next.ensures.sent ∙ before.fresh.sent_is; fresh_is = c.next.ensures.fresh ∙ before.fresh.fresh_is }) c.take_letter.ensures.sends.fresh

pub returns-in_err-taken-in-Some-clause-rest : goal.returns-in_err-taken-in-Some-clause-rest
returns-in_err-taken-in-Some-clause-rest g c = writes_then c.loop-net.invariant.rest c.take_letter.ensures.rest
