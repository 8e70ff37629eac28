use Rattle.std.proofs.Common.{◌≡◌, ◌<◌, ◌≤◌, Some, arith, false, get_or, length, refl, sym, ◌∙◌}
use Rattle.std.specs.List.{slice_get}
use Rattle.std.proofs.Math.ListN.{set}
use Rattle.std.proofs.lemmas.Option.{slice_get-get_or}
use Rattle.std.proofs.lemmas.Result.{err_from_is_err_and}
use Rattle.coco_letters.proofs.HearingLemmas.{counts_then, fresh_none}
use Rattle.coco_letters.proofs.TellingLemmas.{adds_same, adds_then}
use Rattle.coco_letters.proofs.WorldLemmas.{between_then}
use Rattle.coco_vote.specs.Nearing.{all_ahead, Nears}
use Rattle.coco_vote.specs.Preparing.{have_durable, Ballot, RestsVoted}
use Rattle.coco_vote.specs.Taking.{has_lost, AreVoting, CountsStops, UnlessLost}
use Rattle.coco_vote.specs.Voting.{PreparesOnly}
use Rattle.coco_vote.proofs.NearLemmas.{near_one, nears_both}
use Rattle.coco_vote.proofs.PreparingLemmas.{keeps_same, keeps_then, none_ok}
use Rattle.coco_vote.proofs.StepLemmas.{between_none, fresh_then, only_same, only_then}
use Rattle.coco_vote.proofs.StopLemmas.{counts_both, never_both, stops_at, unless_both, unless_kept}
use Rattle.coco_vote.proofs.TakingLemmas.{cores_then, cores_voting, knows_same}
use Rattle.coco_vote.proofs.VoterLemmas.{apart_still, given_more, held_still, log_is_still, marked_set, ready_set}
use Rattle.coco_vote.proofs.WholeLemmas.{all_whole_same, all_whole_then, whole_set}
use Rattle.coco_vote.proofs.KeepingLemmas.{rest_one, rest_same, rest_then}
use Rattle.coco_vote.proofs.taking.nodes_take.Goals as goal

pub loop-node-init : goal.loop-node-init
loop-node-init g c = record {
  voting = c.requires.voting;
  cores = cores_voting c.args.epoch c.args.cores.now c.args.cores.now c.requires.voting (λ n. refl) (knows_same c.args.cores.now c.args.cores.now refl);
  told = λ told. told;
  marked = c.requires.marked;
  nears = omega arith;
  votes = λ _ n less. absurd (omega (arith, less));
  waits = λ p le. refl;
  says = adds_same (g.N.Net.sent c.args.net.now);
  sent = c.requires.sent;
  files = λ k hold held may nodes logs rests.
      let b : Ballot = record { epoch = c.args.epoch; pieces = c.args.pieces.now; held = hold } in
      (keeps_same g.H.Host k b g.met.H.Host.only_now (have_durable c.args.epoch c.args.cores.now) c.args.host.now rests, rests);
  ready = c.requires.ready;
  rest = rest_same c.args.voters.now c.args.host.now c.args.net.now c.args.power.now;
  whole = all_whole_same (g.P.Power.stops_seen c.args.power.now) c.args.voters.now;
  disk = refl;
  world = λ chief. between_none (g.P.Power.stopped c.args.power.now) (g.P.Power.stopped c.args.power.now) (λ n lt. omega arith) (PreparesOnly c.args.epoch) (record { cores = c.args.cores.now; chief = chief; sent = g.N.Net.sent c.args.net.now }) (only_same c.args.epoch);
  stops = (refl, refl);
  fresh = fresh_none (g.N.Net.sent c.args.net.now) (g.N.Net.fresh c.args.net.now);
  counts = record { given_stays = refl; faults_stay = refl; seed_stays = refl };
}

pub take_letters-requires-clause-sent : goal.take_letters-requires-clause-sent
take_letters-requires-clause-sent g c = c.loop-node.invariant.sent

pub take_letters-requires-clause-voting : goal.take_letters-requires-clause-voting
take_letters-requires-clause-voting g c =
    let before = c.loop-node.invariant in
    let going : has_lost c.loop-node.stops ≡ false = sym c.is_early.ensures ∙ c.if-is_early.false in
    unless_kept c.loop-node.stops (AreVoting c.args.epoch c.loop-node.cores) going before.voting

pub take_letters-requires-clause-marked : goal.take_letters-requires-clause-marked
take_letters-requires-clause-marked g c =
    let within : c.loop-node.node < length c.loop-node.voters = omega (arith, c.loop-node-test.true, c.requires.voters, c.loop-node.auto.voters, c.requires.few) in
    let there : slice_get c.loop-node.voters c.loop-node.node ≡ Some (get_or c.loop-node.voters c.loop-node.node c.index-voters-node.result) = slice_get-get_or c.loop-node.voters c.loop-node.node c.index-voters-node.result within in
    c.loop-node.invariant.marked c.loop-node.node (get_or c.loop-node.voters c.loop-node.node c.index-voters-node.result) there

pub take_letters-requires-clause-unspent : goal.take_letters-requires-clause-unspent
take_letters-requires-clause-unspent g c =
    let within : c.loop-node.node < length c.loop-node.voters = omega (arith, c.loop-node-test.true, c.requires.voters, c.loop-node.auto.voters, c.requires.few) in
    let there : slice_get c.loop-node.voters c.loop-node.node ≡ Some (get_or c.loop-node.voters c.loop-node.node c.index-voters-node.result) = slice_get-get_or c.loop-node.voters c.loop-node.node c.index-voters-node.result within in
    (c.loop-node.invariant.ready c.loop-node.node (get_or c.loop-node.voters c.loop-node.node c.index-voters-node.result) there).0

pub take_letters-requires-clause-stands : goal.take_letters-requires-clause-stands
take_letters-requires-clause-stands g c =
    let within : c.loop-node.node < length c.loop-node.voters = omega (arith, c.loop-node-test.true, c.requires.voters, c.loop-node.auto.voters, c.requires.few) in
    let there : slice_get c.loop-node.voters c.loop-node.node ≡ Some (get_or c.loop-node.voters c.loop-node.node c.index-voters-node.result) = slice_get-get_or c.loop-node.voters c.loop-node.node c.index-voters-node.result within in
    (c.loop-node.invariant.ready c.loop-node.node (get_or c.loop-node.voters c.loop-node.node c.index-voters-node.result) there).1

pub loop-node-preserved : goal.loop-node-preserved
loop-node-preserved g c =
    let before = c.loop-node.invariant in
    let going : has_lost c.loop-node.stops ≡ false = sym c.is_early.ensures ∙ c.if-is_early.false in
    let within : c.loop-node.node < length c.loop-node.voters = omega (arith, c.loop-node-test.true, c.requires.voters, c.loop-node.auto.voters, c.requires.few) in
    let there : slice_get c.loop-node.voters c.loop-node.node ≡ Some (get_or c.loop-node.voters c.loop-node.node c.index-voters-node.result) = slice_get-get_or c.loop-node.voters c.loop-node.node c.index-voters-node.result within in
    let taken = c.in_ok-taken.taken in
    let both = c.and-stops.ensures in
    record {
      voting = stops_at c.and-stops.result c.loop-node.stops taken (λ stops. UnlessLost stops (AreVoting c.args.epoch c.take_letters.new.cores)) both (unless_both c.loop-node.stops taken (AreVoting c.args.epoch c.take_letters.new.cores) going c.in_ok-taken.ensures.voting);
      cores = cores_then c.args.epoch c.args.cores.now c.loop-node.cores c.take_letters.new.cores before.cores c.in_ok-taken.ensures.cores;
      told = λ told. c.in_ok-taken.ensures.told (before.told told);
      marked = marked_set c.loop-node.voters c.loop-node.node (get_or c.loop-node.voters c.loop-node.node c.index-voters-node.result) c.take_letters.new.voter there (g.P.Power.asked c.loop-node.power) (g.P.Power.asked c.take_letters.new.power) (let few : length c.loop-node.voters ≤ 8 = omega (arith, c.requires.voters, c.loop-node.auto.voters, c.requires.few) in few) c.take_letters.ensures.later.asked_stays before.marked c.in_ok-taken.ensures.marked;
      nears = stops_at c.and-stops.result c.loop-node.stops taken (λ stops. Nears stops (all_ahead c.args.epoch c.args.cores.now c.args.voters.now (length c.args.cores.now)) (all_ahead c.args.epoch c.take_letters.new.cores (set c.loop-node.voters c.loop-node.node c.take_letters.new.voter) (length c.args.cores.now))) both
          (nears_both c.loop-node.stops taken (all_ahead c.args.epoch c.args.cores.now c.args.voters.now (length c.args.cores.now)) (all_ahead c.args.epoch c.loop-node.cores c.loop-node.voters (length c.args.cores.now)) (all_ahead c.args.epoch c.take_letters.new.cores (set c.loop-node.voters c.loop-node.node c.take_letters.new.voter) (length c.args.cores.now)) before.nears
          (near_one c.args.epoch c.loop-node.cores c.take_letters.new.cores c.loop-node.voters c.loop-node.node (get_or c.loop-node.voters c.loop-node.node c.index-voters-node.result) c.take_letters.new.voter there c.in_ok-taken.ensures.elsewhere taken (length c.args.cores.now) (omega (arith, c.requires.voters, c.loop-node.auto.voters, within)) c.in_ok-taken.ensures.nears));
      votes = λ never. let two = never_both c.loop-node.stops taken (sym both ∙ never) in
          given_more c.args.epoch c.loop-node.node (g.N.Net.waiting c.args.net.now) (g.N.Net.waiting c.loop-node.net) (g.N.Net.sent c.loop-node.net) (g.N.Net.fresh c.loop-node.net) (g.N.Net.sent c.take_letters.new.net) (g.N.Net.fresh c.take_letters.new.net) before.waits (before.votes two.0) (c.in_ok-taken.ensures.votes two.1) c.in_ok-taken.ensures.fresh;
      waits = λ p le. let less : c.loop-node.node ≤ p = omega (arith, le) in c.take_letters.ensures.waiting p (λ same. omega (arith, same, le)) ∙ before.waits p less;
      says = adds_then (g.N.Net.sent c.args.net.now) (g.N.Net.sent c.loop-node.net) (g.N.Net.sent c.take_letters.new.net) before.says c.in_ok-taken.ensures.says;
      sent = c.in_ok-taken.ensures.sent;
      files = λ k hold held may nodes logs rests.
          let b : Ballot = record { epoch = c.args.epoch; pieces = c.args.pieces.now; held = hold } in
          let one = before.files k hold held may nodes logs rests in
          let inside : c.loop-node.node < k.setting.entry.layout.nodes = omega (arith, nodes, c.requires.voters, c.loop-node.auto.voters, within) in
          (keeps_then g.H.Host k b c.args.host.now c.loop-node.host c.take_letters.new.host one.0 (c.take_letters.ensures.files k hold (held_still hold c.args.voters.now c.loop-node.voters before.rest.places held c.loop-node.node (get_or c.loop-node.voters c.loop-node.node c.index-voters-node.result) there) may inside (log_is_still k c.args.voters.now c.loop-node.voters c.loop-node.node (get_or c.loop-node.voters c.loop-node.node c.index-voters-node.result) before.rest.places logs there) one.1).keeps, (c.in_ok-taken.ensures.files k hold (held_still hold c.args.voters.now c.loop-node.voters before.rest.places held c.loop-node.node (get_or c.loop-node.voters c.loop-node.node c.index-voters-node.result) there) may inside (log_is_still k c.args.voters.now c.loop-node.voters c.loop-node.node (get_or c.loop-node.voters c.loop-node.node c.index-voters-node.result) before.rest.places logs there) one.1).ok);
      ready = ready_set c.loop-node.voters c.loop-node.node (get_or c.loop-node.voters c.loop-node.node c.index-voters-node.result) c.take_letters.new.voter there (g.H.Host.reads c.loop-node.host) (g.H.Host.reads c.take_letters.new.host) (g.H.Host.may_leave c.loop-node.host) (g.H.Host.may_leave c.take_letters.new.host) (apart_still c.args.voters.now c.loop-node.voters before.rest.places c.requires.apart) before.ready c.take_letters.ensures.rest.others c.in_ok-taken.ensures.unspent c.in_ok-taken.ensures.stands;
      rest = rest_then before.rest (rest_one c.loop-node.voters c.loop-node.node (get_or c.loop-node.voters c.loop-node.node c.index-voters-node.result) c.take_letters.new.voter c.loop-node.net c.take_letters.new.net there c.take_letters.ensures.held c.take_letters.ensures.rest c.take_letters.ensures.fresh c.take_letters.ensures.later c.take_letters.ensures.counts);
      whole = all_whole_then (g.P.Power.stops_seen c.args.power.now) (g.P.Power.stops_seen c.loop-node.power) (g.P.Power.stops_seen c.take_letters.new.power) c.args.voters.now c.loop-node.voters (set c.loop-node.voters c.loop-node.node c.take_letters.new.voter) before.rest.later.seen_rises c.take_letters.ensures.later.seen_rises before.whole
          (whole_set (g.P.Power.stops_seen c.loop-node.power) (g.P.Power.stops_seen c.take_letters.new.power) c.loop-node.voters c.loop-node.node (get_or c.loop-node.voters c.loop-node.node c.index-voters-node.result) c.take_letters.new.voter there c.in_ok-taken.ensures.whole);
      disk = c.in_ok-taken.ensures.disk ∙ before.disk;
      world = λ chief. between_then (PreparesOnly c.args.epoch) (PreparesOnly c.args.epoch) (PreparesOnly c.args.epoch) (only_then c.args.epoch) (g.P.Power.stopped c.args.power.now) (g.P.Power.stopped c.loop-node.power) (g.P.Power.stopped c.take_letters.new.power) (record { cores = c.args.cores.now; chief = chief; sent = g.N.Net.sent c.args.net.now }) (record { cores = c.loop-node.cores; chief = chief; sent = g.N.Net.sent c.loop-node.net }) (record { cores = c.take_letters.new.cores; chief = chief; sent = g.N.Net.sent c.take_letters.new.net }) (before.world chief) (c.in_ok-taken.ensures.world chief);
      stops = stops_at c.and-stops.result c.loop-node.stops taken (λ stops. CountsStops stops (g.P.Power.stops_seen c.args.power.now) (g.P.Power.early_stops c.args.power.now) (g.P.Power.stops_seen c.take_letters.new.power) (g.P.Power.early_stops c.take_letters.new.power)) both
          (counts_both c.loop-node.stops taken (g.P.Power.stops_seen c.args.power.now) (g.P.Power.early_stops c.args.power.now) (g.P.Power.stops_seen c.loop-node.power) (g.P.Power.early_stops c.loop-node.power) (g.P.Power.stops_seen c.take_letters.new.power) (g.P.Power.early_stops c.take_letters.new.power) before.stops c.in_ok-taken.ensures.stops);
      fresh = fresh_then (g.N.Net.sent c.args.net.now) (g.N.Net.fresh c.args.net.now) (g.N.Net.sent c.loop-node.net) (g.N.Net.fresh c.loop-node.net) (g.N.Net.sent c.take_letters.new.net) (g.N.Net.fresh c.take_letters.new.net) before.fresh c.in_ok-taken.ensures.fresh;
      counts = counts_then (g.N.Net.given c.args.net.now) (g.N.Net.faults c.args.net.now) (g.N.Net.last_seed c.args.net.now) (g.N.Net.given c.loop-node.net) (g.N.Net.faults c.loop-node.net) (g.N.Net.last_seed c.loop-node.net) (g.N.Net.given c.take_letters.new.net) (g.N.Net.faults c.take_letters.new.net) (g.N.Net.last_seed c.take_letters.new.net) before.counts c.take_letters.ensures.counts;
    }

pub returns-in_err-taken-clause-files : goal.returns-in_err-taken-clause-files
returns-in_err-taken-clause-files g c k hold held may nodes logs rests =
    let before = c.loop-node.invariant in
    let within : c.loop-node.node < length c.loop-node.voters = omega (arith, c.loop-node-test.true, c.requires.voters, c.loop-node.auto.voters, c.requires.few) in
    let there : slice_get c.loop-node.voters c.loop-node.node ≡ Some (get_or c.loop-node.voters c.loop-node.node c.index-voters-node.result) = slice_get-get_or c.loop-node.voters c.loop-node.node c.index-voters-node.result within in
    let b : Ballot = record { epoch = c.args.epoch; pieces = c.args.pieces.now; held = hold } in
    let p = err_from_is_err_and c.from_residual.result c.from_residual.ensures.1 in
    let one = before.files k hold held may nodes logs rests in
    let inside : c.loop-node.node < k.setting.entry.layout.nodes = omega (arith, nodes, c.requires.voters, c.loop-node.auto.voters, within) in
    record {
      keeps = keeps_then g.H.Host k b c.args.host.now c.loop-node.host c.take_letters.new.host one.0 (c.take_letters.ensures.files k hold (held_still hold c.args.voters.now c.loop-node.voters before.rest.places held c.loop-node.node (get_or c.loop-node.voters c.loop-node.node c.index-voters-node.result) there) may inside (log_is_still k c.args.voters.now c.loop-node.voters c.loop-node.node (get_or c.loop-node.voters c.loop-node.node c.index-voters-node.result) before.rest.places logs there) one.1).keeps;
      ok = none_ok c.from_residual.result p.0 (RestsVoted k b (have_durable c.args.epoch c.take_letters.new.cores) (g.H.Host.reads c.take_letters.new.host) (g.H.Host.may_leave c.take_letters.new.host)) p.1;
    }

pub returns-in_err-taken-clause-counts : goal.returns-in_err-taken-clause-counts
returns-in_err-taken-clause-counts g c =
    let before = c.loop-node.invariant in
    counts_then (g.N.Net.given c.args.net.now) (g.N.Net.faults c.args.net.now) (g.N.Net.last_seed c.args.net.now) (g.N.Net.given c.loop-node.net) (g.N.Net.faults c.loop-node.net) (g.N.Net.last_seed c.loop-node.net) (g.N.Net.given c.take_letters.new.net) (g.N.Net.faults c.take_letters.new.net) (g.N.Net.last_seed c.take_letters.new.net) before.counts c.take_letters.ensures.counts

pub returns-then-is_early-clause-files : goal.returns-then-is_early-clause-files
returns-then-is_early-clause-files g c k hold held may nodes logs rests =
    let before = c.loop-node.invariant in
    let one = before.files k hold held may nodes logs rests in
    record { keeps = one.0; ok = one.1 }

pub returns-clause-files : goal.returns-clause-files
returns-clause-files g c k hold held may nodes logs rests =
    let before = c.loop-node.invariant in
    let one = before.files k hold held may nodes logs rests in
    record { keeps = one.0; ok = one.1 }

pub returns-clause-votes : goal.returns-clause-votes
returns-clause-votes g c = λ never n less. c.loop-node.invariant.votes never n (omega (arith, less, c.loop-node-test.false, c.loop-node.auto.cores, c.requires.few))

pub returns-in_err-taken-clause-fresh : goal.returns-in_err-taken-clause-fresh
returns-in_err-taken-clause-fresh g c =
    let before = c.loop-node.invariant in
    fresh_then (g.N.Net.sent c.args.net.now) (g.N.Net.fresh c.args.net.now) (g.N.Net.sent c.loop-node.net) (g.N.Net.fresh c.loop-node.net) (g.N.Net.sent c.take_letters.new.net) (g.N.Net.fresh c.take_letters.new.net) before.fresh c.take_letters.ensures.fresh

pub returns-in_err-taken-clause-rest : goal.returns-in_err-taken-clause-rest
returns-in_err-taken-clause-rest g c =
    let within : c.loop-node.node < length c.loop-node.voters = omega (arith, c.loop-node-test.true, c.requires.voters, c.loop-node.auto.voters, c.requires.few) in
    let there : slice_get c.loop-node.voters c.loop-node.node ≡ Some (get_or c.loop-node.voters c.loop-node.node c.index-voters-node.result) = slice_get-get_or c.loop-node.voters c.loop-node.node c.index-voters-node.result within in
    rest_then c.loop-node.invariant.rest (rest_one c.loop-node.voters c.loop-node.node (get_or c.loop-node.voters c.loop-node.node c.index-voters-node.result) c.take_letters.new.voter c.loop-node.net c.take_letters.new.net there c.take_letters.ensures.held c.take_letters.ensures.rest c.take_letters.ensures.fresh c.take_letters.ensures.later c.take_letters.ensures.counts)
