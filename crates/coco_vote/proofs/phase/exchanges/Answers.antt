use Rattle.std.proofs.Common.{◌≡◌, inl, inr, ◌<◌, ◌≤◌, ◌+◌, ◌-◌, ℕ, false, true, List, [], ◌++◌, append-nil, arith, length, refl, ap, subst, sym, ◌∙◌}
use Rattle.std.specs.List.{Contains}
use Rattle.std.proofs.lemmas.List.Elements.{Contains-append_cases}
use Rattle.std.proofs.lemmas.Result.{err_from_is_err_and}
use Rattle.coco_chief.specs.Chief.{Chief}
use Rattle.coco_chief.specs.Shown.{chief_of}
use Rattle.coco_chief.specs.Table.{is_open}
use Rattle.coco_net.specs.declared.letter.Posted.{Posted}
use Rattle.coco_letters.specs.Worlds.{SameEntries}
use Rattle.coco_letters.proofs.TellingLemmas.{adds_left, adds_same, adds_then, adds_vote}
use Rattle.coco_letters.proofs.WorldLemmas.{between_on, between_then}
use Rattle.coco_vote.specs.Counting.{prepare_of, HasCounted, IsAye}
use Rattle.coco_vote.specs.Nearing.{all_ahead, Nears}
use Rattle.coco_vote.specs.Outcomes.{exchanges_in, IsMissing}
use Rattle.coco_vote.specs.Preparing.{have_durable, Ballot, RestsVoted}
use Rattle.coco_vote.specs.Taking.{has_lost, vote_of, AreVoting}
use Rattle.coco_vote.specs.Voting.{PreparesOnly}
use Rattle.coco_vote.proofs.CountingLemmas.{told_still}
use Rattle.coco_vote.proofs.GivingLemmas.{nothing_given, same_more, since_both}
use Rattle.coco_vote.proofs.PrepareLemmas.{at_most_one, comes_by, early_more, early_same, few_more, less_left, lost_more, not_more, open_by, was_missing}
use Rattle.coco_vote.proofs.PreparingLemmas.{keeps_same, keeps_then, none_ok}
use Rattle.coco_vote.proofs.StepLemmas.{between_none, only_same, only_then}
use Rattle.coco_vote.proofs.StopLemmas.{unless_kept}
use Rattle.coco_vote.proofs.TakingLemmas.{cores_then, cores_voting, knows_same}
use Rattle.coco_vote.proofs.VoterLemmas.{apart_still, held_still, logs_still}
use Rattle.coco_vote.proofs.WholeLemmas.{all_whole_same, all_whole_then}
use Rattle.coco_vote.proofs.KeepingLemmas.{rest_same, rest_sends, rest_then}
use Rattle.coco_vote.proofs.phase.exchanges.Goals as goal

pub asking-init : goal.asking-init
asking-init g c =
    record {
      voting = c.requires.voting;
      cores = cores_voting c.args.epoch c.args.cores.now c.args.cores.now c.requires.voting (λ n. refl) (knows_same c.args.cores.now c.args.cores.now refl);
      told = c.requires.told;
      marked = c.requires.marked;
      counting = λ given is. subst (λ (ps : List Posted). HasCounted c.args.epoch (IsAye c.args.epoch ps) (chief_of c.args.chief.now)) (same_more (g.N.Net.given c.args.net.now) [] given (append-nil (g.N.Net.given c.args.net.now) ∙ is)) c.requires.counted;
      fresh = λ n less _. c.requires.asked n less;
      asked = c.requires.sent;
      were_sent = λ given p is among. nothing_given (g.N.Net.given c.args.net.now) given p is among;
      lost = omega arith;
      counted = omega arith;
      nodes = refl;
      last = refl;
      committed = refl;
      early = refl;
      says = adds_same (g.N.Net.sent c.args.net.now);
      files = λ k hold held may nodes logs rests.
          let b : Ballot = record { epoch = c.args.epoch; pieces = c.args.pieces.now; held = hold } in
          (keeps_same g.H.Host k b g.met.H.Host.only_now (have_durable c.args.epoch c.args.cores.now) c.args.host.now rests, rests);
      ready = c.requires.ready;
      rest = rest_same c.args.voters.now c.args.host.now c.args.net.now c.args.power.now;
      whole = all_whole_same (g.P.Power.stops_seen c.args.power.now) c.args.voters.now;
      disk = refl;
      world = between_none (g.P.Power.stopped c.args.power.now) (g.P.Power.stopped c.args.power.now) (λ n lt. omega arith) (PreparesOnly c.args.epoch) (record { cores = c.args.cores.now; chief = chief_of c.args.chief.now; sent = (g.N.Net.sent c.args.net.now) }) (only_same c.args.epoch);
    }

pub exchange-requires-clause-voters : goal.exchange-requires-clause-voters
exchange-requires-clause-voters g c =
    let same : length c.asking.voters ≡ length c.asking.cores = omega (arith, c.asking.auto.voters, c.asking.auto.cores, c.requires.voters) in same

pub exchange-requires-clause-nodes : goal.exchange-requires-clause-nodes
exchange-requires-clause-nodes g c =
    let same : (chief_of c.asking.chief).nodes ≡ length c.asking.cores = omega (arith, c.asking.invariant.nodes, c.requires.nodes, c.asking.auto.cores) in same

pub exchange-requires-clause-voting : goal.exchange-requires-clause-voting
exchange-requires-clause-voting g c =
    c.asking.invariant.voting

pub exchange-requires-clause-told : goal.exchange-requires-clause-told
exchange-requires-clause-told g c =
    c.asking.invariant.told

pub exchange-requires-clause-marked : goal.exchange-requires-clause-marked
exchange-requires-clause-marked g c =
    c.asking.invariant.marked

pub exchange-requires-clause-ready : goal.exchange-requires-clause-ready
exchange-requires-clause-ready g c =
    c.asking.invariant.ready

pub exchange-requires-clause-few : goal.exchange-requires-clause-few
exchange-requires-clause-few g c =
    let few : length c.asking.cores ≤ 8 = omega (arith, c.requires.few, c.asking.auto.cores) in few

pub exchange-requires-clause-apart : goal.exchange-requires-clause-apart
exchange-requires-clause-apart g c =
    apart_still c.args.voters.now c.asking.voters c.asking.invariant.rest.places c.requires.apart

pub ask_again-requires-clause-asked : goal.ask_again-requires-clause-asked
ask_again-requires-clause-asked g c =
    let before = c.asking.invariant in
    λ n less. adds_left (g.N.Net.sent c.asking.net) (g.N.Net.sent c.exchange.new.net) (prepare_of n c.args.epoch) c.in_ok-stops.ensures.says (before.asked n (omega (arith, less, c.requires.count)))

pub asking-preserved : goal.asking-preserved
asking-preserved g c =
    let before = c.asking.invariant in
    let going : has_lost c.in_ok-stops.stops ≡ false = sym c.is_early.ensures ∙ c.if-is_early.false in
    let voting : AreVoting c.args.epoch c.exchange.new.cores = unless_kept c.in_ok-stops.stops (AreVoting c.args.epoch c.exchange.new.cores) going c.in_ok-stops.ensures.voting in
    let was : HasCounted c.args.epoch (IsAye c.args.epoch before.rest.letters.gives.more) (chief_of c.asking.chief) = before.counting before.rest.letters.gives.more before.rest.letters.gives.gives in
    let now : HasCounted c.args.epoch (IsAye c.args.epoch (before.rest.letters.gives.more ++ c.exchange.ensures.rest.letters.gives.more)) (chief_of c.exchange.new.chief) = unless_kept c.in_ok-stops.stops ((given more : List Posted) → HasCounted c.args.epoch (IsAye c.args.epoch given) (chief_of c.asking.chief) → (g.N.Net.given c.exchange.new.net) ≡ (g.N.Net.given c.asking.net) ++ more → HasCounted c.args.epoch (IsAye c.args.epoch (given ++ more)) (chief_of c.exchange.new.chief)) going c.in_ok-stops.ensures.counted before.rest.letters.gives.more c.exchange.ensures.rest.letters.gives.more was c.exchange.ensures.rest.letters.gives.gives in
    let nodes : (chief_of c.exchange.new.chief).nodes ≡ length c.args.cores.now = omega (arith, c.exchange.ensures.nodes, before.nodes, c.requires.nodes) in
    let many : length c.asking.cores ≡ length c.args.cores.now = omega (arith, c.asking.auto.cores) in
    let miss : IsMissing c.args.nodes (chief_of c.exchange.new.chief) = c.in-None.ensures.1 in
    let first : miss.node < length c.args.cores.now = omega (arith, miss.within, c.requires.count) in
    let less : miss.node < (chief_of c.exchange.new.chief).nodes = omega (arith, first, nodes) in
    record {
      voting = voting;
      cores = cores_then c.args.epoch c.args.cores.now c.asking.cores c.exchange.new.cores before.cores c.in_ok-stops.ensures.cores;
      told = told_still c.args.epoch c.exchange.new.cores (g.N.Net.sent c.exchange.new.net) (g.N.Net.sent c.ask_again.new.net) (g.P.Power.asked c.exchange.new.power) c.in_ok-ask_again-in-None.ensures.says c.in_ok-stops.ensures.told;
      marked = c.in_ok-stops.ensures.marked;
      counting = λ given is. subst (λ (ps : List Posted). HasCounted c.args.epoch (IsAye c.args.epoch ps) (chief_of c.exchange.new.chief)) (sym (since_both (g.N.Net.given c.args.net.now) (g.N.Net.given c.asking.net) (g.N.Net.given c.exchange.new.net) before.rest.letters.gives.more c.exchange.ensures.rest.letters.gives.more given before.rest.letters.gives.gives c.exchange.ensures.rest.letters.gives.gives (sym c.ask_again.ensures.counts.given_stays ∙ is))) now;
      fresh = λ n small lacking. c.in_ok-ask_again-in-None.ensures.asked n (omega (arith, small, c.requires.count)) lacking;
      asked = λ n small. adds_left (g.N.Net.sent c.exchange.new.net) (g.N.Net.sent c.ask_again.new.net) (prepare_of n c.args.epoch) c.in_ok-ask_again-in-None.ensures.says (adds_left (g.N.Net.sent c.asking.net) (g.N.Net.sent c.exchange.new.net) (prepare_of n c.args.epoch) c.in_ok-stops.ensures.says (before.asked n small));
      were_sent = λ given p is among. adds_left (g.N.Net.sent c.exchange.new.net) (g.N.Net.sent c.ask_again.new.net) p c.in_ok-ask_again-in-None.ensures.says (elim (Contains-append_cases before.rest.letters.gives.more c.exchange.ensures.rest.letters.gives.more p (subst (λ (ps : List Posted). Contains ps p) (since_both (g.N.Net.given c.args.net.now) (g.N.Net.given c.asking.net) (g.N.Net.given c.exchange.new.net) before.rest.letters.gives.more c.exchange.ensures.rest.letters.gives.more given before.rest.letters.gives.gives c.exchange.ensures.rest.letters.gives.gives (sym c.ask_again.ensures.counts.given_stays ∙ is)) among)) [
        | inl first ↦ adds_left (g.N.Net.sent c.asking.net) (g.N.Net.sent c.exchange.new.net) p c.in_ok-stops.ensures.says (before.were_sent before.rest.letters.gives.more p before.rest.letters.gives.gives first)
        | inr second ↦ c.in_ok-stops.ensures.were_sent c.exchange.ensures.rest.letters.gives.more p c.exchange.ensures.rest.letters.gives.gives second
      ]);
      lost = subst (λ (x : ℕ). (g.N.Net.faults c.args.net.now) + (c.asking.counted + c.exchanges-counted.result) ≤ x) (sym c.ask_again.ensures.counts.faults_stay) (subst (λ (x : ℕ). (g.N.Net.faults c.args.net.now) + (c.asking.counted + x) ≤ (g.N.Net.faults c.exchange.new.net)) (sym c.exchanges-counted.ensures) (lost_more c.in_ok-stops.stops (g.N.Net.faults c.args.net.now) c.asking.counted (g.N.Net.faults c.asking.net) (g.N.Net.faults c.exchange.new.net) before.lost c.exchange.ensures.rest.letters.gives.faults_rise (λ never same. not_more c.args.epoch before.rest.letters.gives.more c.exchange.ensures.rest.letters.gives.more (chief_of c.asking.chief) (chief_of c.exchange.new.chief) was now miss.node less miss.missing (c.in_ok-stops.ensures.votes never c.exchange.ensures.rest.letters.gives.more c.exchange.ensures.rest.letters.gives.gives same miss.node (omega (arith, first, many)) (before.fresh miss.node first (was_missing c.args.epoch before.rest.letters.gives.more c.exchange.ensures.rest.letters.gives.more (chief_of c.asking.chief) (chief_of c.exchange.new.chief) was now miss.node less miss.missing))))));
      counted = few_more c.in_ok-stops.stops c.asking.counted c.exchanges-counted.result (c.asking.counted + c.exchanges-counted.result) before.counted c.exchanges-counted.ensures refl c.in-None.ensures.0;
      nodes = c.exchange.ensures.nodes ∙ before.nodes;
      last = c.in_ok-stops.ensures.last ∙ before.last;
      committed = c.in_ok-stops.ensures.committed ∙ before.committed;
      early = early_same c.in_ok-stops.stops (g.P.Power.stops_seen c.asking.power) (g.P.Power.early_stops c.asking.power) (g.P.Power.stops_seen c.exchange.new.power) (g.P.Power.early_stops c.exchange.new.power) going c.in_ok-stops.ensures.stops ∙ before.early;
      says = (adds_then (g.N.Net.sent c.args.net.now) (g.N.Net.sent c.exchange.new.net) (g.N.Net.sent c.ask_again.new.net) (adds_then (g.N.Net.sent c.args.net.now) (g.N.Net.sent c.asking.net) (g.N.Net.sent c.exchange.new.net) before.says c.in_ok-stops.ensures.says) (adds_vote c.args.epoch (g.N.Net.sent c.exchange.new.net) (g.N.Net.sent c.ask_again.new.net) c.in_ok-ask_again-in-None.ensures.says));
      files = λ k hold held may nodes logs rests.
          let b : Ballot = record { epoch = c.args.epoch; pieces = c.args.pieces.now; held = hold } in
          let one = before.files k hold held may nodes logs rests in
          (keeps_then g.H.Host k b c.args.host.now c.asking.host c.exchange.new.host one.0 (c.exchange.ensures.files k hold (held_still hold c.args.voters.now c.asking.voters before.rest.places held) may (nodes ∙ sym many) (logs_still k c.args.voters.now c.asking.voters before.rest.places logs) one.1).keeps, (c.in_ok-stops.ensures.files k hold (held_still hold c.args.voters.now c.asking.voters before.rest.places held) may (nodes ∙ sym many) (logs_still k c.args.voters.now c.asking.voters before.rest.places logs) one.1).ok);
      ready = c.in_ok-stops.ensures.ready;
      rest = rest_then (rest_then before.rest c.exchange.ensures.rest) (rest_sends c.exchange.new.voters c.exchange.new.host c.exchange.new.net c.ask_again.new.net c.exchange.new.power c.ask_again.ensures.sent c.ask_again.ensures.counts);
      whole = all_whole_then (g.P.Power.stops_seen c.args.power.now) (g.P.Power.stops_seen c.asking.power) (g.P.Power.stops_seen c.exchange.new.power) c.args.voters.now c.asking.voters c.exchange.new.voters before.rest.later.seen_rises c.exchange.ensures.rest.later.seen_rises before.whole c.in_ok-stops.ensures.whole;
      disk = c.in_ok-stops.ensures.disk ∙ before.disk;
      world = between_then (PreparesOnly c.args.epoch) SameEntries (PreparesOnly c.args.epoch) (λ w v u one two. only_then c.args.epoch w v u one (only_same c.args.epoch v u two)) (g.P.Power.stopped c.args.power.now) (g.P.Power.stopped c.exchange.new.power) (g.P.Power.stopped c.exchange.new.power) (record { cores = c.args.cores.now; chief = chief_of c.args.chief.now; sent = (g.N.Net.sent c.args.net.now) }) (record { cores = c.exchange.new.cores; chief = chief_of c.exchange.new.chief; sent = (g.N.Net.sent c.exchange.new.net) }) (record { cores = c.exchange.new.cores; chief = chief_of c.exchange.new.chief; sent = (g.N.Net.sent c.ask_again.new.net) }) (between_then (PreparesOnly c.args.epoch) (PreparesOnly c.args.epoch) (PreparesOnly c.args.epoch) (only_then c.args.epoch) (g.P.Power.stopped c.args.power.now) (g.P.Power.stopped c.asking.power) (g.P.Power.stopped c.exchange.new.power) (record { cores = c.args.cores.now; chief = chief_of c.args.chief.now; sent = (g.N.Net.sent c.args.net.now) }) (record { cores = c.asking.cores; chief = chief_of c.asking.chief; sent = (g.N.Net.sent c.asking.net) }) (record { cores = c.exchange.new.cores; chief = chief_of c.exchange.new.chief; sent = (g.N.Net.sent c.exchange.new.net) }) before.world c.in_ok-stops.ensures.world)
          (between_on SameEntries SameEntries (g.P.Power.stopped c.exchange.new.power) (g.P.Power.stopped c.exchange.new.power) (record { cores = c.exchange.new.cores; chief = chief_of c.exchange.new.chief; sent = (g.N.Net.sent c.exchange.new.net) }) (record { cores = c.exchange.new.cores; chief = chief_of c.exchange.new.chief; sent = (g.N.Net.sent c.ask_again.new.net) }) (λ w v _ same. same) (λ n lt. omega arith) (c.in_ok-ask_again-in-None.ensures.world c.exchange.new.cores (chief_of c.exchange.new.chief)));
    }

pub asking-smaller : goal.asking-smaller
asking-smaller g c =
    let before = c.asking.invariant in
    let going : has_lost c.in_ok-stops.stops ≡ false = sym c.is_early.ensures ∙ c.if-is_early.false in
    let many : length c.asking.cores ≡ length c.args.cores.now = omega (arith, c.asking.auto.cores) in
    let near = subst (λ (x : ℕ). Nears c.in_ok-stops.stops (all_ahead c.args.epoch c.asking.cores c.asking.voters x) (all_ahead c.args.epoch c.exchange.new.cores c.exchange.new.voters x)) many c.in_ok-stops.ensures.nears in
    subst (λ (x : ℕ). (16 - (c.asking.counted + x)) + all_ahead c.args.epoch c.exchange.new.cores c.exchange.new.voters (length c.args.cores.now) < (16 - c.asking.counted) + all_ahead c.args.epoch c.asking.cores c.asking.voters (length c.args.cores.now)) (sym c.exchanges-counted.ensures)
    (less_left c.in_ok-stops.stops c.asking.counted (all_ahead c.args.epoch c.asking.cores c.asking.voters (length c.args.cores.now)) (all_ahead c.args.epoch c.exchange.new.cores c.exchange.new.voters (length c.args.cores.now)) before.counted going near)

pub returns-in_err-stops-clause-nodes : goal.returns-in_err-stops-clause-nodes
returns-in_err-stops-clause-nodes g c =
    let before = c.asking.invariant in
    c.exchange.ensures.nodes ∙ before.nodes

pub returns-in_err-stops-clause-files : goal.returns-in_err-stops-clause-files
returns-in_err-stops-clause-files g c k hold held may nodes logs rests =
    let before = c.asking.invariant in
    let b : Ballot = record { epoch = c.args.epoch; pieces = c.args.pieces.now; held = hold } in
    let many : length c.asking.cores ≡ length c.args.cores.now = omega (arith, c.asking.auto.cores) in
    let one = before.files k hold held may nodes logs rests in
    let p = err_from_is_err_and c.from_residual.result c.from_residual.ensures.1 in
    record {
      keeps = keeps_then g.H.Host k b c.args.host.now c.asking.host c.exchange.new.host one.0 (c.exchange.ensures.files k hold (held_still hold c.args.voters.now c.asking.voters before.rest.places held) may (nodes ∙ sym many) (logs_still k c.args.voters.now c.asking.voters before.rest.places logs) one.1).keeps;
      ok = none_ok c.from_residual.result p.0 (RestsVoted k b (have_durable c.args.epoch c.exchange.new.cores) (g.H.Host.reads c.exchange.new.host) (g.H.Host.may_leave c.exchange.new.host)) p.1;
    }

pub returns-then-is_early-clause-answer : goal.returns-then-is_early-clause-answer
returns-then-is_early-clause-answer g c =
    let before = c.asking.invariant in
    let lost : has_lost c.in_ok-stops.stops ≡ true = sym c.is_early.ensures ∙ c.if-is_early.true in
    let was : HasCounted c.args.epoch (IsAye c.args.epoch before.rest.letters.gives.more) (chief_of c.asking.chief) = before.counting before.rest.letters.gives.more before.rest.letters.gives.gives in
    λ given is. (
      subst (λ (x : ℕ). x < g.P.Power.early_stops c.exchange.new.power) before.early (early_more c.in_ok-stops.stops (g.P.Power.stops_seen c.asking.power) (g.P.Power.early_stops c.asking.power) (g.P.Power.stops_seen c.exchange.new.power) (g.P.Power.early_stops c.exchange.new.power) lost c.in_ok-stops.ensures.stops),
      ap (λ (x : Chief). x.current) (c.in_ok-stops.ensures.lost lost) ∙ was.current,
      ap (λ (x : Chief). is_open x.phase) (c.in_ok-stops.ensures.lost lost) ∙ open_by (chief_of c.asking.chief).phase (chief_of c.asking.chief).voted was.phase,
    )

pub returns-then-is_early-clause-nodes : goal.returns-then-is_early-clause-nodes
returns-then-is_early-clause-nodes g c =
    let before = c.asking.invariant in
    c.exchange.ensures.nodes ∙ before.nodes

pub returns-then-is_early-clause-were_sent : goal.returns-then-is_early-clause-were_sent
returns-then-is_early-clause-were_sent g c given p is among =
    let before = c.asking.invariant in
    elim (Contains-append_cases before.rest.letters.gives.more c.exchange.ensures.rest.letters.gives.more p (subst (λ (ps : List Posted). Contains ps p) (since_both (g.N.Net.given c.args.net.now) (g.N.Net.given c.asking.net) (g.N.Net.given c.exchange.new.net) before.rest.letters.gives.more c.exchange.ensures.rest.letters.gives.more given before.rest.letters.gives.gives c.exchange.ensures.rest.letters.gives.gives is) among)) [
      | inl first ↦ adds_left (g.N.Net.sent c.asking.net) (g.N.Net.sent c.exchange.new.net) p c.in_ok-stops.ensures.says (before.were_sent before.rest.letters.gives.more p before.rest.letters.gives.gives first)
      | inr second ↦ c.in_ok-stops.ensures.were_sent c.exchange.ensures.rest.letters.gives.more p c.exchange.ensures.rest.letters.gives.gives second
    ]

pub returns-then-is_early-clause-says : goal.returns-then-is_early-clause-says
returns-then-is_early-clause-says g c =
    let before = c.asking.invariant in
    (adds_then (g.N.Net.sent c.args.net.now) (g.N.Net.sent c.asking.net) (g.N.Net.sent c.exchange.new.net) before.says c.in_ok-stops.ensures.says)

pub returns-then-is_early-clause-files : goal.returns-then-is_early-clause-files
returns-then-is_early-clause-files g c k hold held may nodes logs rests =
    let before = c.asking.invariant in
    let b : Ballot = record { epoch = c.args.epoch; pieces = c.args.pieces.now; held = hold } in
    let many : length c.asking.cores ≡ length c.args.cores.now = omega (arith, c.asking.auto.cores) in
    let one = before.files k hold held may nodes logs rests in
    record { keeps = keeps_then g.H.Host k b c.args.host.now c.asking.host c.exchange.new.host one.0 (c.exchange.ensures.files k hold (held_still hold c.args.voters.now c.asking.voters before.rest.places held) may (nodes ∙ sym many) (logs_still k c.args.voters.now c.asking.voters before.rest.places logs) one.1).keeps; ok = (c.in_ok-stops.ensures.files k hold (held_still hold c.args.voters.now c.asking.voters before.rest.places held) may (nodes ∙ sym many) (logs_still k c.args.voters.now c.asking.voters before.rest.places logs) one.1).ok }

pub returns-then-is_early-clause-disk : goal.returns-then-is_early-clause-disk
returns-then-is_early-clause-disk g c =
    let before = c.asking.invariant in
    c.in_ok-stops.ensures.disk ∙ before.disk

pub returns-then-is_early-clause-world : goal.returns-then-is_early-clause-world
returns-then-is_early-clause-world g c =
    let before = c.asking.invariant in
    (between_then (PreparesOnly c.args.epoch) (PreparesOnly c.args.epoch) (PreparesOnly c.args.epoch) (only_then c.args.epoch) (g.P.Power.stopped c.args.power.now) (g.P.Power.stopped c.asking.power) (g.P.Power.stopped c.exchange.new.power) (record { cores = c.args.cores.now; chief = chief_of c.args.chief.now; sent = (g.N.Net.sent c.args.net.now) }) (record { cores = c.asking.cores; chief = chief_of c.asking.chief; sent = (g.N.Net.sent c.asking.net) }) (record { cores = c.exchange.new.cores; chief = chief_of c.exchange.new.chief; sent = (g.N.Net.sent c.exchange.new.net) }) before.world c.in_ok-stops.ensures.world)

pub returns-in-Some-clause-answer : goal.returns-in-Some-clause-answer
returns-in-Some-clause-answer g c =
    let before = c.asking.invariant in
    let going : has_lost c.in_ok-stops.stops ≡ false = sym c.is_early.ensures ∙ c.if-is_early.false in
    let voting : AreVoting c.args.epoch c.exchange.new.cores = unless_kept c.in_ok-stops.stops (AreVoting c.args.epoch c.exchange.new.cores) going c.in_ok-stops.ensures.voting in
    let was : HasCounted c.args.epoch (IsAye c.args.epoch before.rest.letters.gives.more) (chief_of c.asking.chief) = before.counting before.rest.letters.gives.more before.rest.letters.gives.gives in
    let now : HasCounted c.args.epoch (IsAye c.args.epoch (before.rest.letters.gives.more ++ c.exchange.ensures.rest.letters.gives.more)) (chief_of c.exchange.new.chief) = unless_kept c.in_ok-stops.stops ((given more : List Posted) → HasCounted c.args.epoch (IsAye c.args.epoch given) (chief_of c.asking.chief) → (g.N.Net.given c.exchange.new.net) ≡ (g.N.Net.given c.asking.net) ++ more → HasCounted c.args.epoch (IsAye c.args.epoch (given ++ more)) (chief_of c.exchange.new.chief)) going c.in_ok-stops.ensures.counted before.rest.letters.gives.more c.exchange.ensures.rest.letters.gives.more was c.exchange.ensures.rest.letters.gives.gives in
    let nodes : (chief_of c.exchange.new.chief).nodes ≡ length c.args.cores.now = omega (arith, c.exchange.ensures.nodes, before.nodes, c.requires.nodes) in
    let many : length c.asking.cores ≡ length c.args.cores.now = omega (arith, c.asking.auto.cores) in
    λ given is.
    let both : given ≡ before.rest.letters.gives.more ++ c.exchange.ensures.rest.letters.gives.more = (since_both (g.N.Net.given c.args.net.now) (g.N.Net.given c.asking.net) (g.N.Net.given c.exchange.new.net) before.rest.letters.gives.more c.exchange.ensures.rest.letters.gives.more given before.rest.letters.gives.gives c.exchange.ensures.rest.letters.gives.gives is) in
    comes_by c.in-Some.votes c.args.epoch c.args.nodes (c.asking.counted + c.exchanges-counted.result) c.exchange.new.cores (g.N.Net.sent c.exchange.new.net) given (g.P.Power.asked c.exchange.new.power) (chief_of c.exchange.new.chief) (g.N.Net.faults c.args.net.now) (g.N.Net.faults c.exchange.new.net) (g.P.Power.early_stops c.args.power.now) (g.P.Power.early_stops c.exchange.new.power) c.in-Some.ensures (nodes ∙ sym c.requires.count)
    (subst (λ (ps : List Posted). HasCounted c.args.epoch (IsAye c.args.epoch ps) (chief_of c.exchange.new.chief)) (sym both) now) voting c.in_ok-stops.ensures.told
    (λ n among. elim (Contains-append_cases before.rest.letters.gives.more c.exchange.ensures.rest.letters.gives.more (vote_of n c.args.epoch true) (subst (λ (ps : List Posted). Contains ps (vote_of n c.args.epoch true)) both among)) [
      | inl first ↦ adds_left (g.N.Net.sent c.asking.net) (g.N.Net.sent c.exchange.new.net) (vote_of n c.args.epoch true) c.in_ok-stops.ensures.says (before.were_sent before.rest.letters.gives.more (vote_of n c.args.epoch true) before.rest.letters.gives.gives first)
      | inr second ↦ c.in_ok-stops.ensures.were_sent c.exchange.ensures.rest.letters.gives.more (vote_of n c.args.epoch true) c.exchange.ensures.rest.letters.gives.gives second
    ])
    (λ node within missing. let first : node < length c.args.cores.now = omega (arith, within, c.requires.count) in let less : node < (chief_of c.exchange.new.chief).nodes = omega (arith, first, nodes) in subst (λ (x : ℕ). (g.N.Net.faults c.args.net.now) + (c.asking.counted + x) ≤ (g.N.Net.faults c.exchange.new.net)) (sym c.exchanges-counted.ensures) (lost_more c.in_ok-stops.stops (g.N.Net.faults c.args.net.now) c.asking.counted (g.N.Net.faults c.asking.net) (g.N.Net.faults c.exchange.new.net) before.lost c.exchange.ensures.rest.letters.gives.faults_rise (λ never same. not_more c.args.epoch before.rest.letters.gives.more c.exchange.ensures.rest.letters.gives.more (chief_of c.asking.chief) (chief_of c.exchange.new.chief) was now node less missing (c.in_ok-stops.ensures.votes never c.exchange.ensures.rest.letters.gives.more c.exchange.ensures.rest.letters.gives.gives same node (omega (arith, first, many)) (before.fresh node first (was_missing c.args.epoch before.rest.letters.gives.more c.exchange.ensures.rest.letters.gives.more (chief_of c.asking.chief) (chief_of c.exchange.new.chief) was now node less missing))))))
    (early_same c.in_ok-stops.stops (g.P.Power.stops_seen c.asking.power) (g.P.Power.early_stops c.asking.power) (g.P.Power.stops_seen c.exchange.new.power) (g.P.Power.early_stops c.exchange.new.power) going c.in_ok-stops.ensures.stops ∙ before.early)

pub returns-in-Some-clause-nodes : goal.returns-in-Some-clause-nodes
returns-in-Some-clause-nodes g c =
    let before = c.asking.invariant in
    c.exchange.ensures.nodes ∙ before.nodes

pub returns-in-Some-clause-were_sent : goal.returns-in-Some-clause-were_sent
returns-in-Some-clause-were_sent g c given p is among =
    let before = c.asking.invariant in
    elim (Contains-append_cases before.rest.letters.gives.more c.exchange.ensures.rest.letters.gives.more p (subst (λ (ps : List Posted). Contains ps p) (since_both (g.N.Net.given c.args.net.now) (g.N.Net.given c.asking.net) (g.N.Net.given c.exchange.new.net) before.rest.letters.gives.more c.exchange.ensures.rest.letters.gives.more given before.rest.letters.gives.gives c.exchange.ensures.rest.letters.gives.gives is) among)) [
      | inl first ↦ adds_left (g.N.Net.sent c.asking.net) (g.N.Net.sent c.exchange.new.net) p c.in_ok-stops.ensures.says (before.were_sent before.rest.letters.gives.more p before.rest.letters.gives.gives first)
      | inr second ↦ c.in_ok-stops.ensures.were_sent c.exchange.ensures.rest.letters.gives.more p c.exchange.ensures.rest.letters.gives.gives second
    ]

pub returns-in-Some-clause-says : goal.returns-in-Some-clause-says
returns-in-Some-clause-says g c =
    let before = c.asking.invariant in
    (adds_then (g.N.Net.sent c.args.net.now) (g.N.Net.sent c.asking.net) (g.N.Net.sent c.exchange.new.net) before.says c.in_ok-stops.ensures.says)

pub returns-in-Some-clause-files : goal.returns-in-Some-clause-files
returns-in-Some-clause-files g c k hold held may nodes logs rests =
    let before = c.asking.invariant in
    let b : Ballot = record { epoch = c.args.epoch; pieces = c.args.pieces.now; held = hold } in
    let many : length c.asking.cores ≡ length c.args.cores.now = omega (arith, c.asking.auto.cores) in
    let one = before.files k hold held may nodes logs rests in
    record { keeps = keeps_then g.H.Host k b c.args.host.now c.asking.host c.exchange.new.host one.0 (c.exchange.ensures.files k hold (held_still hold c.args.voters.now c.asking.voters before.rest.places held) may (nodes ∙ sym many) (logs_still k c.args.voters.now c.asking.voters before.rest.places logs) one.1).keeps; ok = (c.in_ok-stops.ensures.files k hold (held_still hold c.args.voters.now c.asking.voters before.rest.places held) may (nodes ∙ sym many) (logs_still k c.args.voters.now c.asking.voters before.rest.places logs) one.1).ok }

pub returns-in-Some-clause-disk : goal.returns-in-Some-clause-disk
returns-in-Some-clause-disk g c =
    let before = c.asking.invariant in
    c.in_ok-stops.ensures.disk ∙ before.disk

pub returns-in-Some-clause-world : goal.returns-in-Some-clause-world
returns-in-Some-clause-world g c =
    let before = c.asking.invariant in
    (between_then (PreparesOnly c.args.epoch) (PreparesOnly c.args.epoch) (PreparesOnly c.args.epoch) (only_then c.args.epoch) (g.P.Power.stopped c.args.power.now) (g.P.Power.stopped c.asking.power) (g.P.Power.stopped c.exchange.new.power) (record { cores = c.args.cores.now; chief = chief_of c.args.chief.now; sent = (g.N.Net.sent c.args.net.now) }) (record { cores = c.asking.cores; chief = chief_of c.asking.chief; sent = (g.N.Net.sent c.asking.net) }) (record { cores = c.exchange.new.cores; chief = chief_of c.exchange.new.chief; sent = (g.N.Net.sent c.exchange.new.net) }) before.world c.in_ok-stops.ensures.world)

pub returns-in_err-ask_again-in-None-clause-nodes : goal.returns-in_err-ask_again-in-None-clause-nodes
returns-in_err-ask_again-in-None-clause-nodes g c =
    let before = c.asking.invariant in
    c.exchange.ensures.nodes ∙ before.nodes

pub returns-in_err-ask_again-in-None-clause-files : goal.returns-in_err-ask_again-in-None-clause-files
returns-in_err-ask_again-in-None-clause-files g c k hold held may nodes logs rests =
    let before = c.asking.invariant in
    let b : Ballot = record { epoch = c.args.epoch; pieces = c.args.pieces.now; held = hold } in
    let many : length c.asking.cores ≡ length c.args.cores.now = omega (arith, c.asking.auto.cores) in
    let one = before.files k hold held may nodes logs rests in
    let p = err_from_is_err_and c.from_residual-in_err-ask_again-in-None.result c.from_residual-in_err-ask_again-in-None.ensures.1 in
    record {
      keeps = keeps_then g.H.Host k b c.args.host.now c.asking.host c.exchange.new.host one.0 (c.exchange.ensures.files k hold (held_still hold c.args.voters.now c.asking.voters before.rest.places held) may (nodes ∙ sym many) (logs_still k c.args.voters.now c.asking.voters before.rest.places logs) one.1).keeps;
      ok = none_ok c.from_residual-in_err-ask_again-in-None.result p.0 (RestsVoted k b (have_durable c.args.epoch c.exchange.new.cores) (g.H.Host.reads c.exchange.new.host) (g.H.Host.may_leave c.exchange.new.host)) p.1;
    }

pub overflow_add-counted : goal.overflow_add-counted
overflow_add-counted g c =
    let few : c.asking.counted < 16 = c.asking.invariant.counted in
    let small : exchanges_in c.in_ok-stops.stops ≤ 1 = at_most_one c.in_ok-stops.stops in
    omega (arith, few, small, c.exchanges-counted.ensures)

pub returns-then-is_early-clause-cores : goal.returns-then-is_early-clause-cores
returns-then-is_early-clause-cores g c = cores_then c.args.epoch c.args.cores.now c.asking.cores c.exchange.new.cores c.asking.invariant.cores c.in_ok-stops.ensures.cores

pub returns-in-Some-clause-cores : goal.returns-in-Some-clause-cores
returns-in-Some-clause-cores g c = cores_then c.args.epoch c.args.cores.now c.asking.cores c.exchange.new.cores c.asking.invariant.cores c.in_ok-stops.ensures.cores

pub returns-then-is_early-clause-whole : goal.returns-then-is_early-clause-whole
returns-then-is_early-clause-whole g c =
    let before = c.asking.invariant in
    all_whole_then (g.P.Power.stops_seen c.args.power.now) (g.P.Power.stops_seen c.asking.power) (g.P.Power.stops_seen c.exchange.new.power) c.args.voters.now c.asking.voters c.exchange.new.voters before.rest.later.seen_rises c.exchange.ensures.rest.later.seen_rises before.whole c.in_ok-stops.ensures.whole

pub returns-in-Some-clause-whole : goal.returns-in-Some-clause-whole
returns-in-Some-clause-whole g c =
    let before = c.asking.invariant in
    all_whole_then (g.P.Power.stops_seen c.args.power.now) (g.P.Power.stops_seen c.asking.power) (g.P.Power.stops_seen c.exchange.new.power) c.args.voters.now c.asking.voters c.exchange.new.voters before.rest.later.seen_rises c.exchange.ensures.rest.later.seen_rises before.whole c.in_ok-stops.ensures.whole

pub returns-in_err-stops-clause-rest : goal.returns-in_err-stops-clause-rest
returns-in_err-stops-clause-rest g c = rest_then c.asking.invariant.rest c.exchange.ensures.rest

pub returns-then-is_early-clause-rest : goal.returns-then-is_early-clause-rest
returns-then-is_early-clause-rest g c = rest_then c.asking.invariant.rest c.exchange.ensures.rest

pub returns-in-Some-clause-rest : goal.returns-in-Some-clause-rest
returns-in-Some-clause-rest g c = rest_then c.asking.invariant.rest c.exchange.ensures.rest

pub returns-in_err-ask_again-in-None-clause-rest : goal.returns-in_err-ask_again-in-None-clause-rest
returns-in_err-ask_again-in-None-clause-rest g c =
    rest_then (rest_then c.asking.invariant.rest c.exchange.ensures.rest) (rest_sends c.exchange.new.voters c.exchange.new.host c.exchange.new.net c.ask_again.new.net c.exchange.new.power c.ask_again.ensures.sent c.ask_again.ensures.counts)
