use Rattle.std.proofs.Common.{◌<◌, ◌≤◌, ◌^◌, List, ◌++◌, length, arith, ap, subst, sym, refl, ◌∙◌}
use Rattle.std.proofs.Math.ListN.{take, drop}
use Rattle.coco_chief.specs.Shown.{chief_of}
use Rattle.std.proofs.lemmas.List.{with_items_is}
use Rattle.coco_letters.specs.Around.{Around, around}
use Rattle.coco_letters.specs.declared.voter.Voter.{Voter}
use Rattle.coco_node.specs.Node.{Node}
use Rattle.coco_vote.specs.Beginning.{AreNew, GoesOnVoted}
use Rattle.coco_vote.specs.Taking.{AreApart, AreHeld, AreReady, HaveLogs, KeepPlaces, StayWhole}
use Rattle.coco_finish.specs.Finishing.{AllCanFinish}
use Rattle.coco_vote.specs.Preparing.{have_durable, Ballot, RestsVoted}
use Rattle.coco_vote.proofs.PreparingLemmas.{none_ok}
use Rattle.std.proofs.lemmas.Result.{err_from_is_err_and}
use Rattle.coco_trial.specs.Voting.{ComesOf}
use Rattle.coco_trial.proofs.VoteLemmas.{decided_by}
use Rattle.coco_vote.proofs.KeepingLemmas.{rest_of}
use Rattle.coco_trial.proofs.voting.vote.Goals as goal

pub decide-requires-clause-few : goal.decide-requires-clause-few
decide-requires-clause-few g c = subst (λ (x : List Node). length x ≤ 8) (sym c.as_mut_slice.ensures.value) c.requires.may.are.few

pub decide-requires-clause-some_node : goal.decide-requires-clause-some_node
decide-requires-clause-some_node g c = subst (λ (x : List Node). 0 < length x) (sym c.as_mut_slice.ensures.value) c.requires.may.are.some

pub decide-requires-clause-voters : goal.decide-requires-clause-voters
decide-requires-clause-voters g c = ap length c.as_mut_slice-2.ensures.value ∙ c.requires.may.are.voters ∙ sym (ap length c.as_mut_slice.ensures.value)

pub decide-requires-clause-nodes : goal.decide-requires-clause-nodes
decide-requires-clause-nodes g c = c.requires.may.are.chief ∙ sym (ap length c.as_mut_slice.ensures.value)

pub decide-requires-clause-at_rest : goal.decide-requires-clause-at_rest
decide-requires-clause-at_rest g c = c.requires.may.rest.phase

pub decide-requires-clause-above_begun : goal.decide-requires-clause-above_begun
decide-requires-clause-above_begun g c = c.requires.may.rest.begun

pub decide-requires-clause-above_committed : goal.decide-requires-clause-above_committed
decide-requires-clause-above_committed g c = c.requires.may.rest.committed

pub decide-requires-clause-new : goal.decide-requires-clause-new
decide-requires-clause-new g c = subst (AreNew c.args.epoch) (sym c.as_mut_slice.ensures.value) c.requires.may.rest.new

pub decide-requires-clause-unsaid : goal.decide-requires-clause-unsaid
decide-requires-clause-unsaid g c = λ n yes among. c.requires.may.votes n c.args.epoch yes (omega arith) (let fits : c.args.epoch < 2 ^ 64 = omega (arith, c.ranges.epoch.fits) in fits) among

pub decide-requires-clause-ready : goal.decide-requires-clause-ready
decide-requires-clause-ready g c = subst (λ (x : List Voter). AreReady x (g.H.Host.reads c.args.host.now) (g.H.Host.may_leave c.args.host.now)) (sym c.as_mut_slice-2.ensures.value) c.requires.ready

pub decide-requires-clause-apart : goal.decide-requires-clause-apart
decide-requires-clause-apart g c = subst AreApart (sym c.as_mut_slice-2.ensures.value) c.requires.may.are.apart

-- ---- without memory, or with a fault of the disk

pub returns-in_err-all-clause-keeps : goal.returns-in_err-all-clause-keeps
returns-in_err-all-clause-keeps g c =
    let k = c.args.members.now in
    let voters : List Voter = c.decide.new.voters in
    let cores_are = with_items_is c.args.members.now.cores c.decide.new.cores (c.decide.auto.cores ∙ c.as_mut_slice.ensures.len) in
    let voters_are = with_items_is c.args.members.now.voters c.decide.new.voters (c.decide.auto.voters ∙ c.as_mut_slice-2.ensures.len) in
    record {
      log = refl;
      tables = refl;
      count = ap length cores_are ∙ c.decide.auto.cores ∙ ap length c.as_mut_slice.ensures.value;
      places = subst (KeepPlaces k.voters.items) (sym voters_are) (subst (λ (x : List Voter). KeepPlaces x voters) c.as_mut_slice-2.ensures.value c.decide.ensures.rest.places);
    }

pub returns-clause-keeps : goal.returns-clause-keeps
returns-clause-keeps g c =
    let k = c.args.members.now in
    let voters : List Voter = c.decide.new.voters in
    let cores_are = with_items_is c.args.members.now.cores c.decide.new.cores (c.decide.auto.cores ∙ c.as_mut_slice.ensures.len) in
    let voters_are = with_items_is c.args.members.now.voters c.decide.new.voters (c.decide.auto.voters ∙ c.as_mut_slice-2.ensures.len) in
    record {
      log = refl;
      tables = refl;
      count = ap length cores_are ∙ c.decide.auto.cores ∙ ap length c.as_mut_slice.ensures.value;
      places = subst (KeepPlaces k.voters.items) (sym voters_are) (subst (λ (x : List Voter). KeepPlaces x voters) c.as_mut_slice-2.ensures.value c.decide.ensures.rest.places);
    }

pub returns-clause-comes : goal.returns-clause-comes
returns-clause-comes g c =
    let cores_are = with_items_is c.args.members.now.cores c.decide.new.cores (c.decide.auto.cores ∙ c.as_mut_slice.ensures.len) in
    let a : Around = around g.N.Net g.P.Power c.args.net.now c.args.power.now in
    let b : Around = around g.N.Net g.P.Power c.decide.new.net c.decide.new.power in
    subst (λ (x : List Node). ComesOf c.in_ok-all.all c.args.epoch x (chief_of c.decide.new.chief) a b) (sym cores_are) c.in_ok-all.ensures.comes

pub returns-clause-ready : goal.returns-clause-ready
returns-clause-ready g c =
    let voters_are = with_items_is c.args.members.now.voters c.decide.new.voters (c.decide.auto.voters ∙ c.as_mut_slice-2.ensures.len) in
    subst (λ (x : List Voter). AreReady x (g.H.Host.reads c.decide.new.host) (g.H.Host.may_leave c.decide.new.host)) (sym voters_are) c.in_ok-all.ensures.ready

pub returns-clause-world : goal.returns-clause-world
returns-clause-world g c =
    let k = c.args.members.now in
    let cores : List Node = c.decide.new.cores in
    let cores_are = with_items_is c.args.members.now.cores c.decide.new.cores (c.decide.auto.cores ∙ c.as_mut_slice.ensures.len) in
    subst (λ (x : List Node). GoesOnVoted c.args.epoch (g.P.Power.stopped c.args.power.now) (g.P.Power.stopped c.decide.new.power) (record { cores = k.cores.items; chief = chief_of k.chief; sent = g.N.Net.sent c.args.net.now }) (record { cores = x; chief = chief_of c.decide.new.chief; sent = g.N.Net.sent c.decide.new.net })) (sym cores_are)
    (subst (λ (x : List Node). GoesOnVoted c.args.epoch (g.P.Power.stopped c.args.power.now) (g.P.Power.stopped c.decide.new.power) (record { cores = x; chief = chief_of k.chief; sent = g.N.Net.sent c.args.net.now }) (record { cores = cores; chief = chief_of c.decide.new.chief; sent = g.N.Net.sent c.decide.new.net })) c.as_mut_slice.ensures.value c.in_ok-all.ensures.world)

pub returns-in_err-all-clause-files : goal.returns-in_err-all-clause-files
returns-in_err-all-clause-files g c d hold held may nodes logs rests =
    let k = c.args.members.now in
    let cores : List Node = c.decide.new.cores in
    let kept = c.decide.ensures.files d hold (subst (AreHeld hold) (sym c.as_mut_slice-2.ensures.value) held) may (nodes ∙ sym (ap length c.as_mut_slice.ensures.value)) (subst (HaveLogs d) (sym c.as_mut_slice-2.ensures.value) logs) rests in
    let p = err_from_is_err_and c.from_residual.result c.from_residual.ensures.1 in
    record {
      keeps = kept.keeps;
      ok = none_ok c.from_residual.result p.0 (RestsVoted d (record { epoch = c.args.epoch; pieces = c.args.pieces.now; held = hold }) (have_durable c.args.epoch (take k.cores.len (cores ++ drop (length cores) k.cores.items))) (g.H.Host.reads c.decide.new.host) (g.H.Host.may_leave c.decide.new.host)) p.1;
    }

pub returns-clause-files : goal.returns-clause-files
returns-clause-files g c d hold held may nodes logs rests =
    let cores_are = with_items_is c.args.members.now.cores c.decide.new.cores (c.decide.auto.cores ∙ c.as_mut_slice.ensures.len) in
    let b : Ballot = record { epoch = c.args.epoch; pieces = c.args.pieces.now; held = hold } in
    let kept = c.in_ok-all.ensures.files d hold (subst (AreHeld hold) (sym c.as_mut_slice-2.ensures.value) held) may (nodes ∙ sym (ap length c.as_mut_slice.ensures.value)) (subst (HaveLogs d) (sym c.as_mut_slice-2.ensures.value) logs) rests in
    record {
      keeps = kept.keeps;
      ok = subst (λ (x : List Node). RestsVoted d b (have_durable c.args.epoch x) (g.H.Host.reads c.decide.new.host) (g.H.Host.may_leave c.decide.new.host)) (sym cores_are) kept.ok;
    }

pub returns-clause-decided : goal.returns-clause-decided
returns-clause-decided g c =
    let k = c.args.members.now in
    let cores : List Node = c.decide.new.cores in
    let cores_are = with_items_is c.args.members.now.cores c.decide.new.cores (c.decide.auto.cores ∙ c.as_mut_slice.ensures.len) in
    let voters_are = with_items_is c.args.members.now.voters c.decide.new.voters (c.decide.auto.voters ∙ c.as_mut_slice-2.ensures.len) in
    let a : Around = around g.N.Net g.P.Power c.args.net.now c.args.power.now in
    let b : Around = around g.N.Net g.P.Power c.decide.new.net c.decide.new.power in
    let can : AllCanFinish (chief_of k.chief).last (take k.cores.len (cores ++ drop (length cores) k.cores.items)) = subst (AllCanFinish (chief_of k.chief).last) (sym cores_are) (c.in_ok-all.ensures.can (chief_of k.chief).last c.requires.may.rest.committed (subst (AllCanFinish (chief_of k.chief).last) (sym c.as_mut_slice.ensures.value) c.requires.may.rest.can)) in
    decided_by c.in_ok-all.all c.args.epoch (g.N.Net.sent c.args.net.now) (g.N.Net.sent c.decide.new.net) k a b (let fits : c.args.epoch < 2 ^ 64 = omega (arith, c.ranges.epoch.fits) in fits) c.requires.may
    (returns-clause-keeps g c) c.decide.ensures.nodes (ap length voters_are ∙ c.decide.auto.voters ∙ ap length c.as_mut_slice-2.ensures.value) c.in_ok-all.ensures.last can c.in_ok-all.ensures.says
    (subst (λ (x : List Node). ComesOf c.in_ok-all.all c.args.epoch x (chief_of c.decide.new.chief) a b) (sym cores_are) c.in_ok-all.ensures.comes)

pub returns-clause-whole : goal.returns-clause-whole
returns-clause-whole g c =
    let k = c.args.members.now in
    let voters : List Voter = c.decide.new.voters in
    let voters_are = with_items_is c.args.members.now.voters c.decide.new.voters (c.decide.auto.voters ∙ c.as_mut_slice-2.ensures.len) in
    subst (StayWhole (g.P.Power.stops_seen c.args.power.now) (g.P.Power.stops_seen c.decide.new.power) k.voters.items) (sym voters_are)
    (subst (λ (x : List Voter). StayWhole (g.P.Power.stops_seen c.args.power.now) (g.P.Power.stops_seen c.decide.new.power) x voters) c.as_mut_slice-2.ensures.value c.in_ok-all.ensures.whole)

pub returns-in_err-all-clause-rest : goal.returns-in_err-all-clause-rest
returns-in_err-all-clause-rest g c =
    let voters_are = with_items_is c.args.members.now.voters c.decide.new.voters (c.decide.auto.voters ∙ c.as_mut_slice-2.ensures.len) in
    rest_of c.as_mut_slice-2.ensures.value voters_are c.decide.ensures.rest

pub returns-clause-rest : goal.returns-clause-rest
returns-clause-rest g c =
    let voters_are = with_items_is c.args.members.now.voters c.decide.new.voters (c.decide.auto.voters ∙ c.as_mut_slice-2.ensures.len) in
    rest_of c.as_mut_slice-2.ensures.value voters_are c.decide.ensures.rest
