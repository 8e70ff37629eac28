use Rattle.std.proofs.Common.{◌<◌, ℕ, List, [], ◌∷◌, true, ap, arith, eqb, subst, sym, ◌∙◌, refl}
use Rattle.std.proofs.lemmas.Result.{err_from_is_err_and}
use Rattle.coco_node.specs.Node.{Node}
use Rattle.coco_letters.specs.declared.nodes.Heard.{Heard}
use Rattle.coco_letters.specs.Worlds.{SameEntries}
use Rattle.coco_letters.proofs.TellingLemmas.{adds_then}
use Rattle.coco_vote.specs.declared.step.Stops.{Stops}
use Rattle.coco_vote.specs.Nearing.{ahead_of, Nears}
use Rattle.coco_vote.specs.Preparing.{durable_at, have_durable, Ballot, RestsVoted}
use Rattle.coco_vote.specs.Steps.{letters_in, EndsVote}
use Rattle.coco_vote.specs.Taking.{vote_of, AreVoting, HeardSo, UnlessLost}
use Rattle.coco_vote.specs.Voting.{PreparesOnly}
use Rattle.coco_vote.proofs.NearLemmas.{nears_same}
use Rattle.coco_vote.proofs.PreparingLemmas.{none_ok, rests_same, votes_same}
use Rattle.coco_vote.proofs.SayingLemmas.{ends_say, heard_say, steps_say}
use Rattle.coco_vote.proofs.StepLemmas.{only_same}
use Rattle.coco_vote.proofs.TakingLemmas.{between_heard, cores_stepped, cores_voting, durable_ended, elsewhere, near_ended, near_stepped, fresh_has, fresh_still, heard_durable, never_voted, told_ended, told_stepped, unless_any, voting_behind, voting_ended, voting_unless, vote_in, knows_ended, knows_same}
use Rattle.coco_vote.proofs.WholeLemmas.{whole_step}
use Rattle.coco_vote.proofs.KeepingLemmas.{writes_none}
use Rattle.coco_letters.proofs.OnlyLemmas.{only_then}
use Rattle.coco_vote.proofs.taking.take_letter.Goals as goal

pub returns-in-Nothing-clause-files : goal.returns-in-Nothing-clause-files
returns-in-Nothing-clause-files g c k hold same may node log rests =
    let b : Ballot = record { epoch = c.args.epoch; pieces = c.args.pieces.now; held = hold } in
    let h = subst (λ (h : Heard). HeardSo h c.args.node c.args.epoch c.args.letter.now c.args.cores.now (g.N.Net.sent c.args.net.now) c.hear_vote.new.cores (g.N.Net.sent c.hear_vote.new.net)) c.in-Nothing.is c.in_ok-hear_vote.ensures.heard in
    votes_same g.H.Host k b _ g.met.H.Host.only_now (have_durable c.args.epoch c.args.cores.now) (have_durable c.args.epoch c.hear_vote.new.cores) c.args.host.now
    (λ n. ap (λ (cs : List Node). have_durable c.args.epoch cs n) h.0) rests

pub returns-in_ok-step-in-Voted-clause-voting : goal.returns-in_ok-step-in-Voted-clause-voting
returns-in_ok-step-in-Voted-clause-voting g c =
    let h = subst (λ (h : Heard). HeardSo h c.args.node c.args.epoch c.args.letter.now c.args.cores.now (g.N.Net.sent c.args.net.now) c.hear_vote.new.cores (g.N.Net.sent c.hear_vote.new.net)) c.in-Voted.is c.in_ok-hear_vote.ensures.heard in
    unless_any c.stops.result (AreVoting c.args.epoch c.vote_again.new.cores)
    (voting_ended c.in_ok-step-in-Voted.step c.args.node c.args.epoch c.args.cores.now c.vote_again.new.cores (g.N.Net.sent c.hear_vote.new.net) (g.N.Net.sent c.vote_again.new.net) c.requires.some c.requires.node c.requires.voting
    (subst (λ (cs : List Node). EndsVote c.in_ok-step-in-Voted.step c.args.node c.args.epoch cs (g.N.Net.sent c.hear_vote.new.net) c.vote_again.new.cores (g.N.Net.sent c.vote_again.new.net)) h.1 c.in_ok-step-in-Voted.ensures.ends))

pub returns-in_ok-step-in-Voted-clause-told : goal.returns-in_ok-step-in-Voted-clause-told
returns-in_ok-step-in-Voted-clause-told g c =
    let h = subst (λ (h : Heard). HeardSo h c.args.node c.args.epoch c.args.letter.now c.args.cores.now (g.N.Net.sent c.args.net.now) c.hear_vote.new.cores (g.N.Net.sent c.hear_vote.new.net)) c.in-Voted.is c.in_ok-hear_vote.ensures.heard in
    told_ended c.in_ok-step-in-Voted.step c.args.node c.args.epoch c.args.cores.now c.hear_vote.new.cores c.vote_again.new.cores (g.N.Net.sent c.args.net.now) (g.N.Net.sent c.hear_vote.new.net) (g.N.Net.sent c.vote_again.new.net) (g.P.Power.asked c.args.power.now) (g.P.Power.asked c.vote_again.new.power)
    (omega (arith, c.ranges.epoch.fits)) c.requires.node h.0 h.1 h.2 c.in_ok-step-in-Voted.ensures.ends c.vote_again.ensures.later.asked_stays (c.vote_again.ensures.asked c.requires.marked)

pub returns-in_ok-step-in-Voted-clause-votes : goal.returns-in_ok-step-in-Voted-clause-votes
returns-in_ok-step-in-Voted-clause-votes g c = λ _ _.
    let h = subst (λ (h : Heard). HeardSo h c.args.node c.args.epoch c.args.letter.now c.args.cores.now (g.N.Net.sent c.args.net.now) c.hear_vote.new.cores (g.N.Net.sent c.hear_vote.new.net)) c.in-Voted.is c.in_ok-hear_vote.ensures.heard in
    fresh_still (g.N.Net.sent c.hear_vote.new.net) (g.N.Net.fresh c.hear_vote.new.net) (g.N.Net.sent c.vote_again.new.net) (g.N.Net.fresh c.vote_again.new.net) (vote_of c.args.node c.args.epoch true) c.in_ok-step-in-Voted.ensures.sends.fresh
    (fresh_has (g.N.Net.sent c.args.net.now) (g.N.Net.fresh c.args.net.now) (g.N.Net.sent c.hear_vote.new.net) (g.N.Net.fresh c.hear_vote.new.net) (vote_of c.args.node c.args.epoch true ∷ []) (vote_of c.args.node c.args.epoch true) c.in_ok-hear_vote.ensures.sends.fresh h.2 (vote_in c.args.node c.args.epoch))

pub returns-in_ok-step-in-Voted-clause-files : goal.returns-in_ok-step-in-Voted-clause-files
returns-in_ok-step-in-Voted-clause-files g c k hold same may node log rests =
    let b : Ballot = record { epoch = c.args.epoch; pieces = c.args.pieces.now; held = hold } in
    let h = subst (λ (h : Heard). HeardSo h c.args.node c.args.epoch c.args.letter.now c.args.cores.now (g.N.Net.sent c.args.net.now) c.hear_vote.new.cores (g.N.Net.sent c.hear_vote.new.net)) c.in-Voted.is c.in_ok-hear_vote.ensures.heard in
    votes_same g.H.Host k b _ g.met.H.Host.only_now (have_durable c.args.epoch c.args.cores.now) (have_durable c.args.epoch c.vote_again.new.cores) c.args.host.now
    (λ n. ap (λ (d : ℕ). eqb d c.args.epoch) (durable_ended c.in_ok-step-in-Voted.step c.args.node c.args.epoch c.args.cores.now c.vote_again.new.cores (g.N.Net.sent c.hear_vote.new.net) (g.N.Net.sent c.vote_again.new.net) c.requires.node h.0
    (subst (λ (cs : List Node). EndsVote c.in_ok-step-in-Voted.step c.args.node c.args.epoch cs (g.N.Net.sent c.hear_vote.new.net) c.vote_again.new.cores (g.N.Net.sent c.vote_again.new.net)) h.1 c.in_ok-step-in-Voted.ensures.ends) n))
    rests

pub returns-in_ok-step-in-Voted-clause-world : goal.returns-in_ok-step-in-Voted-clause-world
returns-in_ok-step-in-Voted-clause-world g c = λ chief.
    between_heard SameEntries c.args.epoch (g.P.Power.stopped c.args.power.now) (g.P.Power.stopped c.vote_again.new.power) (record { cores = c.args.cores.now; chief = chief; sent = g.N.Net.sent c.args.net.now }) (record { cores = c.hear_vote.new.cores; chief = chief; sent = g.N.Net.sent c.hear_vote.new.net }) (record { cores = c.vote_again.new.cores; chief = chief; sent = g.N.Net.sent c.vote_again.new.net })
    (only_same c.args.epoch) (c.in_ok-hear_vote.ensures.world chief) (c.in_ok-step-in-Voted.ensures.world chief)

pub returns-in_err-step-in-Forces-clause-files : goal.returns-in_err-step-in-Forces-clause-files
returns-in_err-step-in-Forces-clause-files g c k hold same may node log rests =
    let b : Ballot = record { epoch = c.args.epoch; pieces = c.args.pieces.now; held = hold } in
    let h = subst (λ (h : Heard). HeardSo h c.args.node c.args.epoch c.args.letter.now c.args.cores.now (g.N.Net.sent c.args.net.now) c.hear_vote.new.cores (g.N.Net.sent c.hear_vote.new.net)) c.in-Forces.is c.in_ok-hear_vote.ensures.heard in
    let p = err_from_is_err_and c.from_residual-in_err-step-in-Forces.result c.from_residual-in_err-step-in-Forces.ensures.1 in
    record {
      keeps = (c.force_and_vote.ensures.files k hold same may node log (rests_same k b (have_durable c.args.epoch c.args.cores.now) (have_durable c.args.epoch c.hear_vote.new.cores) (g.H.Host.reads c.args.host.now) (g.H.Host.may_leave c.args.host.now) (λ n. ap (λ (d : ℕ). eqb d c.args.epoch) (heard_durable c.args.node c.args.epoch c.args.cores.now c.hear_vote.new.cores c.requires.node h.3.0 h.3.1 h.3.2 n)) rests)).keeps;
      ok = none_ok c.from_residual-in_err-step-in-Forces.result p.0 (RestsVoted k b (have_durable c.args.epoch c.force_and_vote.new.cores) (g.H.Host.reads c.force_and_vote.new.host) (g.H.Host.may_leave c.force_and_vote.new.host)) p.1;
    }

pub returns-in_ok-step-in-Forces-clause-voting : goal.returns-in_ok-step-in-Forces-clause-voting
returns-in_ok-step-in-Forces-clause-voting g c =
    let h = subst (λ (h : Heard). HeardSo h c.args.node c.args.epoch c.args.letter.now c.args.cores.now (g.N.Net.sent c.args.net.now) c.hear_vote.new.cores (g.N.Net.sent c.hear_vote.new.net)) c.in-Forces.is c.in_ok-hear_vote.ensures.heard in
    subst (λ (stops : Stops). UnlessLost stops (AreVoting c.args.epoch c.force_and_vote.new.cores)) (sym c.stops-in-Forces.ensures)
    (voting_unless c.in_ok-step-in-Forces.step (AreVoting c.args.epoch c.force_and_vote.new.cores) (λ late. voting_behind c.in_ok-step-in-Forces.step c.args.node c.args.epoch c.args.cores.now c.hear_vote.new.cores c.force_and_vote.new.cores (g.N.Net.sent c.args.net.now) (g.N.Net.sent c.hear_vote.new.net) (g.N.Net.sent c.force_and_vote.new.net) c.requires.node h.3.0 h.3.1 h.3.2 h.2 c.in_ok-step-in-Forces.ensures.steps c.requires.some c.requires.voting late))

pub returns-in_ok-step-in-Forces-clause-told : goal.returns-in_ok-step-in-Forces-clause-told
returns-in_ok-step-in-Forces-clause-told g c =
    let h = subst (λ (h : Heard). HeardSo h c.args.node c.args.epoch c.args.letter.now c.args.cores.now (g.N.Net.sent c.args.net.now) c.hear_vote.new.cores (g.N.Net.sent c.hear_vote.new.net)) c.in-Forces.is c.in_ok-hear_vote.ensures.heard in
    told_stepped c.in_ok-step-in-Forces.step c.args.node c.args.epoch c.args.cores.now c.hear_vote.new.cores c.force_and_vote.new.cores (g.N.Net.sent c.args.net.now) (g.N.Net.sent c.hear_vote.new.net) (g.N.Net.sent c.force_and_vote.new.net) c.requires.node h.3.0 h.3.1 h.3.2 h.2 c.in_ok-step-in-Forces.ensures.steps (g.P.Power.asked c.args.power.now) (g.P.Power.asked c.force_and_vote.new.power) (omega (arith, c.ranges.epoch.fits)) h.1 c.in_ok-step-in-Forces.ensures.asked c.force_and_vote.ensures.later.asked_stays

pub returns-in_ok-step-in-Forces-clause-votes : goal.returns-in_ok-step-in-Forces-clause-votes
returns-in_ok-step-in-Forces-clause-votes g c = λ _ never.
    fresh_has (g.N.Net.sent c.hear_vote.new.net) (g.N.Net.fresh c.hear_vote.new.net) (g.N.Net.sent c.force_and_vote.new.net) (g.N.Net.fresh c.force_and_vote.new.net) (letters_in c.in_ok-step-in-Forces.step c.args.node c.args.epoch) (vote_of c.args.node c.args.epoch true)
    c.in_ok-step-in-Forces.ensures.sends.fresh c.in_ok-step-in-Forces.ensures.steps.sent_is (never_voted c.in_ok-step-in-Forces.step c.args.node c.args.epoch (sym c.stops-in-Forces.ensures ∙ never))

pub returns-in_ok-step-in-Forces-clause-files : goal.returns-in_ok-step-in-Forces-clause-files
returns-in_ok-step-in-Forces-clause-files g c k hold same may node log rests =
    let b : Ballot = record { epoch = c.args.epoch; pieces = c.args.pieces.now; held = hold } in
    let h = subst (λ (h : Heard). HeardSo h c.args.node c.args.epoch c.args.letter.now c.args.cores.now (g.N.Net.sent c.args.net.now) c.hear_vote.new.cores (g.N.Net.sent c.hear_vote.new.net)) c.in-Forces.is c.in_ok-hear_vote.ensures.heard in
    record {
      keeps = (c.force_and_vote.ensures.files k hold same may node log (rests_same k b (have_durable c.args.epoch c.args.cores.now) (have_durable c.args.epoch c.hear_vote.new.cores) (g.H.Host.reads c.args.host.now) (g.H.Host.may_leave c.args.host.now) (λ n. ap (λ (d : ℕ). eqb d c.args.epoch) (heard_durable c.args.node c.args.epoch c.args.cores.now c.hear_vote.new.cores c.requires.node h.3.0 h.3.1 h.3.2 n)) rests)).keeps;
      ok = (c.in_ok-step-in-Forces.ensures.files k hold same may node log (rests_same k b (have_durable c.args.epoch c.args.cores.now) (have_durable c.args.epoch c.hear_vote.new.cores) (g.H.Host.reads c.args.host.now) (g.H.Host.may_leave c.args.host.now) (λ n. ap (λ (d : ℕ). eqb d c.args.epoch) (heard_durable c.args.node c.args.epoch c.args.cores.now c.hear_vote.new.cores c.requires.node h.3.0 h.3.1 h.3.2 n)) rests)).ok;
    }

pub returns-in_ok-step-in-Forces-clause-world : goal.returns-in_ok-step-in-Forces-clause-world
returns-in_ok-step-in-Forces-clause-world g c = λ chief.
    between_heard (PreparesOnly c.args.epoch) c.args.epoch (g.P.Power.stopped c.args.power.now) (g.P.Power.stopped c.force_and_vote.new.power) (record { cores = c.args.cores.now; chief = chief; sent = g.N.Net.sent c.args.net.now }) (record { cores = c.hear_vote.new.cores; chief = chief; sent = g.N.Net.sent c.hear_vote.new.net }) (record { cores = c.force_and_vote.new.cores; chief = chief; sent = g.N.Net.sent c.force_and_vote.new.net })
    (λ w v only. only) (c.in_ok-hear_vote.ensures.world chief) (c.in_ok-step-in-Forces.ensures.world chief)

pub returns-in-Nothing-clause-nears : goal.returns-in-Nothing-clause-nears
returns-in-Nothing-clause-nears g c =
    let h = subst (λ (h : Heard). HeardSo h c.args.node c.args.epoch c.args.letter.now c.args.cores.now (g.N.Net.sent c.args.net.now) c.hear_vote.new.cores (g.N.Net.sent c.hear_vote.new.net)) c.in-Nothing.is c.in_ok-hear_vote.ensures.heard in
    nears_same (ahead_of c.args.epoch c.args.cores.now c.args.node c.args.voter.now) (ahead_of c.args.epoch c.hear_vote.new.cores c.args.node c.args.voter.now) (ap (λ (cs : List Node). ahead_of c.args.epoch cs c.args.node c.args.voter.now) h.0)

pub returns-in-Nothing-clause-elsewhere : goal.returns-in-Nothing-clause-elsewhere
returns-in-Nothing-clause-elsewhere g c =
    let h = subst (λ (h : Heard). HeardSo h c.args.node c.args.epoch c.args.letter.now c.args.cores.now (g.N.Net.sent c.args.net.now) c.hear_vote.new.cores (g.N.Net.sent c.hear_vote.new.net)) c.in-Nothing.is c.in_ok-hear_vote.ensures.heard in
    λ m _. ap (λ (cs : List Node). durable_at cs m) h.0

pub returns-in_ok-step-in-Voted-clause-nears : goal.returns-in_ok-step-in-Voted-clause-nears
returns-in_ok-step-in-Voted-clause-nears g c =
    let h = subst (λ (h : Heard). HeardSo h c.args.node c.args.epoch c.args.letter.now c.args.cores.now (g.N.Net.sent c.args.net.now) c.hear_vote.new.cores (g.N.Net.sent c.hear_vote.new.net)) c.in-Voted.is c.in_ok-hear_vote.ensures.heard in
    near_ended c.in_ok-step-in-Voted.step c.args.node c.args.epoch c.args.cores.now c.vote_again.new.cores (g.N.Net.sent c.hear_vote.new.net) (g.N.Net.sent c.vote_again.new.net) c.args.voter.now c.vote_again.new.voter (durable_ended c.in_ok-step-in-Voted.step c.args.node c.args.epoch c.args.cores.now c.vote_again.new.cores (g.N.Net.sent c.hear_vote.new.net) (g.N.Net.sent c.vote_again.new.net) c.requires.node h.0 (subst (λ (cs : List Node). EndsVote c.in_ok-step-in-Voted.step c.args.node c.args.epoch cs (g.N.Net.sent c.hear_vote.new.net) c.vote_again.new.cores (g.N.Net.sent c.vote_again.new.net)) h.1 c.in_ok-step-in-Voted.ensures.ends) c.args.node)
    (subst (λ (cs : List Node). EndsVote c.in_ok-step-in-Voted.step c.args.node c.args.epoch cs (g.N.Net.sent c.hear_vote.new.net) c.vote_again.new.cores (g.N.Net.sent c.vote_again.new.net)) h.1 c.in_ok-step-in-Voted.ensures.ends) c.in_ok-step-in-Voted.ensures.marks c.in_ok-step-in-Voted.ensures.once c.stops.result c.stops.ensures

pub returns-in_ok-step-in-Voted-clause-elsewhere : goal.returns-in_ok-step-in-Voted-clause-elsewhere
returns-in_ok-step-in-Voted-clause-elsewhere g c =
    let h = subst (λ (h : Heard). HeardSo h c.args.node c.args.epoch c.args.letter.now c.args.cores.now (g.N.Net.sent c.args.net.now) c.hear_vote.new.cores (g.N.Net.sent c.hear_vote.new.net)) c.in-Voted.is c.in_ok-hear_vote.ensures.heard in
    λ m _. (durable_ended c.in_ok-step-in-Voted.step c.args.node c.args.epoch c.args.cores.now c.vote_again.new.cores (g.N.Net.sent c.hear_vote.new.net) (g.N.Net.sent c.vote_again.new.net) c.requires.node h.0 (subst (λ (cs : List Node). EndsVote c.in_ok-step-in-Voted.step c.args.node c.args.epoch cs (g.N.Net.sent c.hear_vote.new.net) c.vote_again.new.cores (g.N.Net.sent c.vote_again.new.net)) h.1 c.in_ok-step-in-Voted.ensures.ends) m)

pub returns-in_ok-step-in-Forces-clause-nears : goal.returns-in_ok-step-in-Forces-clause-nears
returns-in_ok-step-in-Forces-clause-nears g c =
    let h = subst (λ (h : Heard). HeardSo h c.args.node c.args.epoch c.args.letter.now c.args.cores.now (g.N.Net.sent c.args.net.now) c.hear_vote.new.cores (g.N.Net.sent c.hear_vote.new.net)) c.in-Forces.is c.in_ok-hear_vote.ensures.heard in
    subst (λ (stops : Stops). Nears stops (ahead_of c.args.epoch c.args.cores.now c.args.node c.args.voter.now) (ahead_of c.args.epoch c.force_and_vote.new.cores c.args.node c.force_and_vote.new.voter)) (sym c.stops-in-Forces.ensures)
    (near_stepped c.in_ok-step-in-Forces.step c.args.node c.args.epoch c.args.cores.now c.hear_vote.new.cores c.force_and_vote.new.cores (g.N.Net.sent c.args.net.now) (g.N.Net.sent c.hear_vote.new.net) (g.N.Net.sent c.force_and_vote.new.net) c.requires.node h.3.0 h.3.1 h.3.2 h.2 c.in_ok-step-in-Forces.ensures.steps c.args.voter.now c.force_and_vote.new.voter c.in_ok-step-in-Forces.ensures.marks)

pub returns-in_ok-step-in-Forces-clause-elsewhere : goal.returns-in_ok-step-in-Forces-clause-elsewhere
returns-in_ok-step-in-Forces-clause-elsewhere g c =
    let h = subst (λ (h : Heard). HeardSo h c.args.node c.args.epoch c.args.letter.now c.args.cores.now (g.N.Net.sent c.args.net.now) c.hear_vote.new.cores (g.N.Net.sent c.hear_vote.new.net)) c.in-Forces.is c.in_ok-hear_vote.ensures.heard in
    elsewhere c.in_ok-step-in-Forces.step c.args.node c.args.epoch c.args.cores.now c.hear_vote.new.cores c.force_and_vote.new.cores (g.N.Net.sent c.args.net.now) (g.N.Net.sent c.hear_vote.new.net) (g.N.Net.sent c.force_and_vote.new.net) c.requires.node h.3.0 h.3.1 h.3.2 h.2 c.in_ok-step-in-Forces.ensures.steps

pub returns-in-Nothing-clause-cores : goal.returns-in-Nothing-clause-cores
returns-in-Nothing-clause-cores g c =
    let h = subst (λ (h : Heard). HeardSo h c.args.node c.args.epoch c.args.letter.now c.args.cores.now (g.N.Net.sent c.args.net.now) c.hear_vote.new.cores (g.N.Net.sent c.hear_vote.new.net)) c.in-Nothing.is c.in_ok-hear_vote.ensures.heard in
    cores_voting c.args.epoch c.args.cores.now c.hear_vote.new.cores (subst (AreVoting c.args.epoch) (sym h.0) c.requires.voting) (λ n. ap (λ (cs : List Node). durable_at cs n) h.0) (knows_same c.args.cores.now c.hear_vote.new.cores h.0)

pub returns-in_ok-step-in-Voted-clause-cores : goal.returns-in_ok-step-in-Voted-clause-cores
returns-in_ok-step-in-Voted-clause-cores g c =
    let h = subst (λ (h : Heard). HeardSo h c.args.node c.args.epoch c.args.letter.now c.args.cores.now (g.N.Net.sent c.args.net.now) c.hear_vote.new.cores (g.N.Net.sent c.hear_vote.new.net)) c.in-Voted.is c.in_ok-hear_vote.ensures.heard in
    let ends = (subst (λ (cs : List Node). EndsVote c.in_ok-step-in-Voted.step c.args.node c.args.epoch cs (g.N.Net.sent c.hear_vote.new.net) c.vote_again.new.cores (g.N.Net.sent c.vote_again.new.net)) h.1 c.in_ok-step-in-Voted.ensures.ends) in
    cores_voting c.args.epoch c.args.cores.now c.vote_again.new.cores
    (voting_ended c.in_ok-step-in-Voted.step c.args.node c.args.epoch c.args.cores.now c.vote_again.new.cores (g.N.Net.sent c.hear_vote.new.net) (g.N.Net.sent c.vote_again.new.net) c.requires.some c.requires.node c.requires.voting ends)
    (durable_ended c.in_ok-step-in-Voted.step c.args.node c.args.epoch c.args.cores.now c.vote_again.new.cores (g.N.Net.sent c.hear_vote.new.net) (g.N.Net.sent c.vote_again.new.net) c.requires.node h.0 ends)
    (knows_ended c.in_ok-step-in-Voted.step c.args.node c.args.epoch c.args.cores.now c.vote_again.new.cores (g.N.Net.sent c.hear_vote.new.net) (g.N.Net.sent c.vote_again.new.net) c.requires.node ends)

pub returns-in_ok-step-in-Forces-clause-cores : goal.returns-in_ok-step-in-Forces-clause-cores
returns-in_ok-step-in-Forces-clause-cores g c =
    let h = subst (λ (h : Heard). HeardSo h c.args.node c.args.epoch c.args.letter.now c.args.cores.now (g.N.Net.sent c.args.net.now) c.hear_vote.new.cores (g.N.Net.sent c.hear_vote.new.net)) c.in-Forces.is c.in_ok-hear_vote.ensures.heard in
    cores_stepped c.in_ok-step-in-Forces.step c.args.node c.args.epoch c.args.cores.now c.hear_vote.new.cores c.force_and_vote.new.cores (g.N.Net.sent c.args.net.now) (g.N.Net.sent c.hear_vote.new.net) (g.N.Net.sent c.force_and_vote.new.net) c.requires.node h.3.0 h.3.1 h.3.2 h.2 c.in_ok-step-in-Forces.ensures.steps c.requires.voting

pub returns-in-Nothing-clause-says : goal.returns-in-Nothing-clause-says
returns-in-Nothing-clause-says g c =
    let few : c.args.node < 8 = omega (arith, c.requires.few, c.requires.node) in
    heard_say c.in_ok-hear_vote.field-0 c.args.node c.args.epoch c.args.letter.now c.args.cores.now (g.N.Net.sent c.args.net.now) c.hear_vote.new.cores (g.N.Net.sent c.hear_vote.new.net) few c.in_ok-hear_vote.ensures.heard

pub returns-in_ok-step-in-Voted-clause-says : goal.returns-in_ok-step-in-Voted-clause-says
returns-in_ok-step-in-Voted-clause-says g c =
    let few : c.args.node < 8 = omega (arith, c.requires.few, c.requires.node) in
    adds_then (g.N.Net.sent c.args.net.now) (g.N.Net.sent c.hear_vote.new.net) (g.N.Net.sent c.vote_again.new.net)
    (heard_say c.in_ok-hear_vote.field-0 c.args.node c.args.epoch c.args.letter.now c.args.cores.now (g.N.Net.sent c.args.net.now) c.hear_vote.new.cores (g.N.Net.sent c.hear_vote.new.net) few c.in_ok-hear_vote.ensures.heard)
    (ends_say c.in_ok-step-in-Voted.step c.args.node c.args.epoch c.hear_vote.new.cores (g.N.Net.sent c.hear_vote.new.net) c.vote_again.new.cores (g.N.Net.sent c.vote_again.new.net) few c.in_ok-step-in-Voted.ensures.ends)

pub returns-in_ok-step-in-Forces-clause-says : goal.returns-in_ok-step-in-Forces-clause-says
returns-in_ok-step-in-Forces-clause-says g c =
    let few : c.args.node < 8 = omega (arith, c.requires.few, c.requires.node) in
    adds_then (g.N.Net.sent c.args.net.now) (g.N.Net.sent c.hear_vote.new.net) (g.N.Net.sent c.force_and_vote.new.net)
    (heard_say c.in_ok-hear_vote.field-0 c.args.node c.args.epoch c.args.letter.now c.args.cores.now (g.N.Net.sent c.args.net.now) c.hear_vote.new.cores (g.N.Net.sent c.hear_vote.new.net) few c.in_ok-hear_vote.ensures.heard)
    (steps_say c.in_ok-step-in-Forces.step c.args.node c.args.epoch c.hear_vote.new.cores (g.N.Net.sent c.hear_vote.new.net) c.force_and_vote.new.cores (g.N.Net.sent c.force_and_vote.new.net) few c.in_ok-step-in-Forces.ensures.steps)

pub returns-in_err-step-in-Voted-clause-sends : goal.returns-in_err-step-in-Voted-clause-sends
returns-in_err-step-in-Voted-clause-sends g c = only_then c.hear_vote.ensures.sends c.vote_again.ensures.sends

pub returns-in_err-step-in-Forces-clause-sends : goal.returns-in_err-step-in-Forces-clause-sends
returns-in_err-step-in-Forces-clause-sends g c = only_then c.hear_vote.ensures.sends c.force_and_vote.ensures.sends

pub returns-in_ok-step-in-Voted-clause-whole : goal.returns-in_ok-step-in-Voted-clause-whole
returns-in_ok-step-in-Voted-clause-whole g c = whole_step c.in_ok-step-in-Voted.step (g.P.Power.stops_seen c.args.power.now) (g.P.Power.early_stops c.args.power.now) (g.P.Power.stops_seen c.vote_again.new.power) (g.P.Power.early_stops c.vote_again.new.power) c.args.voter.now c.vote_again.new.voter c.in_ok-step-in-Voted.ensures.stops c.in_ok-step-in-Voted.ensures.marks

pub returns-in_ok-step-in-Forces-clause-whole : goal.returns-in_ok-step-in-Forces-clause-whole
returns-in_ok-step-in-Forces-clause-whole g c = whole_step c.in_ok-step-in-Forces.step (g.P.Power.stops_seen c.args.power.now) (g.P.Power.early_stops c.args.power.now) (g.P.Power.stops_seen c.force_and_vote.new.power) (g.P.Power.early_stops c.force_and_vote.new.power) c.args.voter.now c.force_and_vote.new.voter c.in_ok-step-in-Forces.ensures.stops c.in_ok-step-in-Forces.ensures.marks

pub returns-in_err-hear_vote-clause-rest : goal.returns-in_err-hear_vote-clause-rest
returns-in_err-hear_vote-clause-rest g c = writes_none c.args.voter.now.log c.args.voter.now.log c.args.host.now refl

pub returns-in-Nothing-clause-rest : goal.returns-in-Nothing-clause-rest
returns-in-Nothing-clause-rest g c = writes_none c.args.voter.now.log c.args.voter.now.log c.args.host.now refl

pub returns-in_err-step-in-Voted-clause-rest : goal.returns-in_err-step-in-Voted-clause-rest
returns-in_err-step-in-Voted-clause-rest g c = writes_none c.args.voter.now.log c.vote_again.new.voter.log c.args.host.now c.vote_again.ensures.log

pub returns-in_ok-step-in-Voted-clause-rest : goal.returns-in_ok-step-in-Voted-clause-rest
returns-in_ok-step-in-Voted-clause-rest g c = writes_none c.args.voter.now.log c.vote_again.new.voter.log c.args.host.now c.vote_again.ensures.log
