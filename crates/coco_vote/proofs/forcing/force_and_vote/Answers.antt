use Rattle.std.proofs.Common.{◌≡◌, ◌<◌, ℕ, Bool, List, Some, [], ◌∷◌, ap, arith, false, inl, inr, lit<, lit≤, refl, subst, sym, true, ◌∙◌}
use Rattle.std.proofs.lemmas.Bool.{eq-eqb}
use Rattle.std.proofs.lemmas.Result.{err_from_is_err_and}
use Rattle.coco_log.specs.LogState.{LogState}
use Rattle.coco_node.specs.Node.{restarted, Node}
use Rattle.coco_world.specs.World.{put}
use Rattle.coco_vote.specs.Preparing.{have_durable, AddsEntry, Ballot, RestsVoted}
use Rattle.coco_vote.specs.Voting.{PreparesOnly}
use Rattle.coco_vote.proofs.PlaceLemmas.{has_older, have_same}
use Rattle.coco_vote.proofs.PowerLemmas.{asked_here}
use Rattle.coco_vote.proofs.PreparingLemmas.{none_ok, rests_same, votes_same}
use Rattle.coco_vote.proofs.StepLemmas.{between_later, between_lost, have_behind, max_none, only_same}
use Rattle.coco_vote.proofs.KeepingLemmas.{writes_none, writes_then}
use Rattle.coco_vote.proofs.forcing.force_and_vote.Goals as goal

pub returns-then-stops-clause-files : goal.returns-then-stops-clause-files
returns-then-stops-clause-files g c k hold same may node log rests =
    let b : Ballot = record { epoch = c.args.epoch; pieces = c.args.pieces.now; held = hold } in
    let lost = c.in_ok-lose_rows.ensures.core in
    votes_same g.H.Host k b _ g.met.H.Host.only_now (have_durable c.args.epoch c.args.cores.now) (have_durable c.args.epoch c.lose_rows.new.cores) c.args.host.now
    (λ n. ap (λ (cs : List Node). have_durable c.args.epoch cs n) lost.2 ∙ have_same c.args.epoch c.args.cores.now c.args.node lost.0 (restarted c.args.node (lost.0.durable ∷ []) (Some c.args.epoch)) c.requires.node lost.1 (max_none lost.0.durable) n)
    rests

pub returns-then-stops-clause-world : goal.returns-then-stops-clause-world
returns-then-stops-clause-world g c =
    let eight : c.args.node < 8 = omega (arith, c.requires.node, c.requires.few) in
    λ chief. between_lost (g.P.Power.stopped c.args.power.now) (g.P.Power.stopped c.stops.new.self) (λ n lt. (c.if-stops.ensures.stopped n lt).0) (PreparesOnly c.args.epoch) c.args.node
    (record { cores = c.args.cores.now; chief = chief; sent = g.N.Net.sent c.args.net.now }) (record { cores = c.lose_rows.new.cores; chief = chief; sent = g.N.Net.sent c.args.net.now })
    (only_same c.args.epoch) eight ((c.if-stops.ensures.stopped c.args.node eight).1.1 (eq-eqb c.args.node c.args.node refl))
    (c.in_ok-lose_rows.ensures.world chief (g.N.Net.sent c.args.net.now))

pub returns-then-stops-clause-stops : goal.returns-then-stops-clause-stops
returns-then-stops-clause-stops g c = record { stops = c.if-stops.ensures.seen.1.1 refl; early_ones = c.if-stops.ensures.early.1.1 refl }

pub returns-then-stops-clause-asked : goal.returns-then-stops-clause-asked
returns-then-stops-clause-asked g c =
    let eight : c.args.node < 8 = omega (arith, c.requires.node, c.requires.few) in
    asked_here g.P.Power c.args.power.now c.stops.new.self c.stops.result c.args.node 3 (lit< tt) c.stops.ensures.seen c.stops.ensures.early c.stops.ensures.stopped c.stops.ensures.begun c.stops.ensures.asked eight (lit≤ tt)

pub returns-in_err-prepare_entry-clause-files : goal.returns-in_err-prepare_entry-clause-files
returns-in_err-prepare_entry-clause-files g c k hold same may node log rests =
    let b : Ballot = record { epoch = c.args.epoch; pieces = c.args.pieces.now; held = hold } in
    let p = err_from_is_err_and c.from_residual-in_err-prepare_entry.result c.from_residual-in_err-prepare_entry.ensures.1 in
    let missing : have_durable c.args.epoch c.args.cores.now c.args.node ≡ false = has_older c.args.epoch c.args.cores.now c.args.node c.requires.forcing.core c.requires.forcing.there c.requires.forcing.newer in
    record {
      keeps = (c.prepare_entry.ensures.files k hold (have_durable c.args.epoch c.args.cores.now) c.args.node (same ∙ sym c.as_slice-held.ensures.value) may node log missing rests).keeps;
      ok = none_ok c.from_residual-in_err-prepare_entry.result p.0 (RestsVoted k b (have_durable c.args.epoch c.args.cores.now) (g.H.Host.reads c.prepare_entry.new.host) (g.H.Host.may_leave c.prepare_entry.new.host)) p.1;
    }

pub returns-in_err-vote-clause-files : goal.returns-in_err-vote-clause-files
returns-in_err-vote-clause-files g c k hold same may node log rests =
    let b : Ballot = record { epoch = c.args.epoch; pieces = c.args.pieces.now; held = hold } in
    let p = err_from_is_err_and c.from_residual-in_err-vote.result c.from_residual-in_err-vote.ensures.1 in
    let missing : have_durable c.args.epoch c.args.cores.now c.args.node ≡ false = has_older c.args.epoch c.args.cores.now c.args.node c.requires.forcing.core c.requires.forcing.there c.requires.forcing.newer in
    record {
      keeps = (c.prepare_entry.ensures.files k hold (have_durable c.args.epoch c.args.cores.now) c.args.node (same ∙ sym c.as_slice-held.ensures.value) may node log missing rests).keeps;
      ok = none_ok c.from_residual-in_err-vote.result p.0 (RestsVoted k b (have_durable c.args.epoch c.vote.new.cores) (g.H.Host.reads c.prepare_entry.new.host) (g.H.Host.may_leave c.prepare_entry.new.host)) p.1;
    }

pub returns-clause-files : goal.returns-clause-files
returns-clause-files g c k hold same may node log rests =
    let b : Ballot = record { epoch = c.args.epoch; pieces = c.args.pieces.now; held = hold } in
    let missing : have_durable c.args.epoch c.args.cores.now c.args.node ≡ false = has_older c.args.epoch c.args.cores.now c.args.node c.requires.forcing.core c.requires.forcing.there c.requires.forcing.newer in
    let had : ℕ → Bool = have_durable c.args.epoch c.args.cores.now in
    record {
      keeps = (c.prepare_entry.ensures.files k hold (have_durable c.args.epoch c.args.cores.now) c.args.node (same ∙ sym c.as_slice-held.ensures.value) may node log missing rests).keeps;
      ok = rests_same k b (put had c.args.node true) (have_durable c.args.epoch c.vote.new.cores) (g.H.Host.reads c.prepare_entry.new.host) (g.H.Host.may_leave c.prepare_entry.new.host)
          (have_behind c.in_ok-vote.field-0 c.args.node c.args.epoch c.args.cores.now c.vote.new.cores (g.N.Net.sent c.args.net.now) (g.N.Net.sent c.vote.new.net) c.requires.node c.in_ok-vote.ensures.durable c.in_ok-vote.ensures.steps)
          (c.in_ok-prepare_entry.ensures.files k hold had c.args.node (same ∙ sym c.as_slice-held.ensures.value) may node log missing rests).ok;
    }

pub returns-clause-world : goal.returns-clause-world
returns-clause-world g c =
    λ chief. between_later (g.P.Power.stopped c.args.power.now) (g.P.Power.stopped c.stops.new.self) (λ n lt. (c.if-stops.ensures.stopped n lt).0) (g.P.Power.stopped c.vote.new.power) c.args.epoch
    (record { cores = c.args.cores.now; chief = chief; sent = g.N.Net.sent c.args.net.now }) (record { cores = c.vote.new.cores; chief = chief; sent = g.N.Net.sent c.vote.new.net }) (c.in_ok-vote.ensures.world chief)

pub returns-then-stops-clause-behind : goal.returns-then-stops-clause-behind
returns-then-stops-clause-behind g c = inl refl

pub returns-in_err-prepare_entry-clause-behind : goal.returns-in_err-prepare_entry-clause-behind
returns-in_err-prepare_entry-clause-behind g c = inl refl

pub returns-in_err-vote-clause-behind : goal.returns-in_err-vote-clause-behind
returns-in_err-vote-clause-behind g c =
    inr (subst (λ (log : LogState). AddsEntry c.args.epoch c.args.pieces.now c.args.voter.now.held.items c.args.voter.now.log log) (sym c.vote.ensures.log)
    (subst (λ (held : List Bool). AddsEntry c.args.epoch c.args.pieces.now held c.args.voter.now.log c.prepare_entry.new.log) c.as_slice-held.ensures.value c.in_ok-prepare_entry.ensures.entry))

pub returns-clause-behind : goal.returns-clause-behind
returns-clause-behind g c =
    inr (subst (λ (log : LogState). AddsEntry c.args.epoch c.args.pieces.now c.args.voter.now.held.items c.args.voter.now.log log) (sym c.vote.ensures.log)
    (subst (λ (held : List Bool). AddsEntry c.args.epoch c.args.pieces.now held c.args.voter.now.log c.prepare_entry.new.log) c.as_slice-held.ensures.value c.in_ok-prepare_entry.ensures.entry))

pub returns-in_err-lose_rows-clause-rest : goal.returns-in_err-lose_rows-clause-rest
returns-in_err-lose_rows-clause-rest g c = writes_none c.args.voter.now.log c.lose_rows.new.voter.log c.args.host.now c.lose_rows.ensures.log

pub returns-then-stops-clause-rest : goal.returns-then-stops-clause-rest
returns-then-stops-clause-rest g c = writes_none c.args.voter.now.log c.lose_rows.new.voter.log c.args.host.now c.lose_rows.ensures.log

pub returns-in_err-vote-clause-rest : goal.returns-in_err-vote-clause-rest
returns-in_err-vote-clause-rest g c = writes_then c.prepare_entry.ensures.rest (writes_none c.prepare_entry.new.log c.vote.new.voter.log c.prepare_entry.new.host c.vote.ensures.log)

pub returns-clause-rest : goal.returns-clause-rest
returns-clause-rest g c = writes_then c.prepare_entry.ensures.rest (writes_none c.prepare_entry.new.log c.vote.new.voter.log c.prepare_entry.new.host c.vote.ensures.log)
