use Rattle.std.proofs.Common.{◌≡◌, ◌+◌, ◌<◌, ◌∷◌, ℕ, true, false, List, [], Some, length, get_or, refl, sym, ap, subst, ◌∙◌, arith}
use Rattle.std.specs.Prelude.{◌==◌, nat_le}
use Rattle.std.specs.List.{slice_get}
use Rattle.std.proofs.Math.ListN.{set}
use Rattle.std.proofs.lemmas.Bool.{eq-eqb, ne_eqb}
use Rattle.std.proofs.lemmas.Option.{slice_get-get_or}
use Rattle.coco_letters.specs.declared.voter.Voter.{Voter}
use Rattle.coco_node.specs.Node.{restarted, Node}
use Rattle.coco_vote.proofs.PowerLemmas.{rises_if}
use Rattle.coco_lost.specs.Stopping.{AreAsked}
use Rattle.coco_lost.proofs.Asking.{ask_step, later_from, was_all, was_none, was_step}
use Rattle.coco_lost.proofs.StoppingLemmas.{can_stopped, counts_asked, counts_same, in_step_stopped, next_stopped, stopped_not, stopped_told}
use Rattle.coco_lost.proofs.stopping.stop_early.Goals as goal

pub loop-node-init : goal.loop-node-init
loop-node-init g c = record {
  cores = refl;
  voters = refl;
  asked = was_none c.args.point (g.P.Power.begun c.args.power.now) (g.P.Power.asked c.args.power.now);
  seen = refl;
  early = refl;
  stopped = λ n lt. refl;
}

pub loop-node-preserved : goal.loop-node-preserved
loop-node-preserved g c =
    let before = c.loop-node.invariant in
    let now = c.loop-node.power in
    let after = c.stops.new.self in
    record {
      cores = before.cores;
      voters = before.voters;
      asked = was_step c.loop-node.node c.args.point (g.P.Power.begun c.args.power.now) (g.P.Power.begun now) (g.P.Power.begun after) (g.P.Power.asked c.args.power.now) (g.P.Power.asked now) (g.P.Power.asked after) before.asked
          c.stops.ensures.begun c.stops.ensures.asked;
      seen = rises_if false (g.P.Power.stops_seen now) (g.P.Power.stops_seen after) c.if-stops.ensures.seen ∙ before.seen;
      early = rises_if false (g.P.Power.early_stops now) (g.P.Power.early_stops after) c.if-stops.ensures.early ∙ before.early;
      stopped = λ n lt. rises_if false (g.P.Power.stopped now n) (g.P.Power.stopped after n) (c.if-stops.ensures.stopped n lt) ∙ before.stopped n lt;
    }

pub returns-then-stops-clause-stops : goal.returns-then-stops-clause-stops
returns-then-stops-clause-stops g c =
    let before = c.loop-node.invariant in
    let inside : c.loop-node.node < length c.loop-node.voters = omega (arith, c.loop-node-test.true, c.requires.voters, c.loop-node.auto.voters, c.requires.few) in
    let eight : c.loop-node.node < 8 = omega (arith, inside, c.loop-node.auto.voters, c.requires.voters, c.requires.few) in
    let lost = c.in_ok-lose_rows.ensures.core in (
      c.loop-node.node,
      record {
        counted = stopped_told (g.P.Power.stops_seen) (g.P.Power.early_stops) (g.P.Power.stopped) c.args.power.now c.loop-node.power c.stops.new.self before.seen before.early before.stopped true (nat_le c.args.point 3) (λ n. n == c.loop-node.node) c.if-stops.ensures.seen c.if-stops.ensures.early c.if-stops.ensures.stopped c.loop-node.node eight (eq-eqb c.loop-node.node c.loop-node.node refl);
        others = λ n lt other. stopped_not (g.P.Power.stops_seen) (g.P.Power.early_stops) (g.P.Power.stopped) c.args.power.now c.loop-node.power c.stops.new.self before.seen before.early before.stopped true (nat_le c.args.point 3) (λ n. n == c.loop-node.node) c.if-stops.ensures.seen c.if-stops.ensures.early c.if-stops.ensures.stopped n lt (ne_eqb n c.loop-node.node other);
        core = lost.0;
        voter = (get_or c.loop-node.voters c.loop-node.node c.index-voters-node.result);
        core_there = (ap (λ (cs : List Node). slice_get cs c.loop-node.node) (sym before.cores) ∙ lost.1);
        voter_there = ap (λ (vs : List Voter). slice_get vs c.loop-node.node) (sym before.voters) ∙ slice_get-get_or c.loop-node.voters c.loop-node.node c.index-voters-node.result inside;
        cores_are = (lost.2 ∙ ap (λ (cs : List Node). set cs c.loop-node.node (restarted c.loop-node.node (lost.0.durable ∷ []) (Some c.args.epoch))) before.cores);
        voters_are = ap (λ (v : Voter). set c.loop-node.voters c.loop-node.node v) c.in_ok-lose_rows.ensures.voter ∙ ap (λ (vs : List Voter). set vs c.loop-node.node (record (get_or c.loop-node.voters c.loop-node.node c.index-voters-node.result) { is_lost = true })) before.voters;
      },
    )

pub returns-then-stops-clause-next : goal.returns-then-stops-clause-next
returns-then-stops-clause-next g c =
    let before = c.loop-node.invariant in
    let inside : c.loop-node.node < length c.loop-node.voters = omega (arith, c.loop-node-test.true, c.requires.voters, c.loop-node.auto.voters, c.requires.few) in
    let within : c.loop-node.node < length c.args.cores.now = omega (arith, inside, c.loop-node.auto.voters, c.requires.voters) in
    let lost = c.in_ok-lose_rows.ensures.core in
    next_stopped c.args.epoch c.loop-node.node c.args.cores.now c.lose_rows.new.cores lost.0 within (ap (λ (cs : List Node). slice_get cs c.loop-node.node) (sym before.cores) ∙ lost.1) (lost.2 ∙ ap (λ (cs : List Node). set cs c.loop-node.node (restarted c.loop-node.node (lost.0.durable ∷ []) (Some c.args.epoch))) before.cores)

pub returns-then-stops-clause-can : goal.returns-then-stops-clause-can
returns-then-stops-clause-can g c =
    let before = c.loop-node.invariant in
    let inside : c.loop-node.node < length c.loop-node.voters = omega (arith, c.loop-node-test.true, c.requires.voters, c.loop-node.auto.voters, c.requires.few) in
    let within : c.loop-node.node < length c.args.cores.now = omega (arith, inside, c.loop-node.auto.voters, c.requires.voters) in
    let lost = c.in_ok-lose_rows.ensures.core in
    can_stopped c.args.epoch c.loop-node.node c.args.cores.now c.lose_rows.new.cores lost.0 within (ap (λ (cs : List Node). slice_get cs c.loop-node.node) (sym before.cores) ∙ lost.1) (lost.2 ∙ ap (λ (cs : List Node). set cs c.loop-node.node (restarted c.loop-node.node (lost.0.durable ∷ []) (Some c.args.epoch))) before.cores)

pub returns-then-stops-clause-in_step : goal.returns-then-stops-clause-in_step
returns-then-stops-clause-in_step g c =
    let before = c.loop-node.invariant in
    let inside : c.loop-node.node < length c.loop-node.voters = omega (arith, c.loop-node-test.true, c.requires.voters, c.loop-node.auto.voters, c.requires.few) in
    let within : c.loop-node.node < length c.args.cores.now = omega (arith, inside, c.loop-node.auto.voters, c.requires.voters) in
    let lost = c.in_ok-lose_rows.ensures.core in
    in_step_stopped c.args.epoch c.loop-node.node c.args.cores.now c.lose_rows.new.cores lost.0 within (ap (λ (cs : List Node). slice_get cs c.loop-node.node) (sym before.cores) ∙ lost.1) (lost.2 ∙ ap (λ (cs : List Node). set cs c.loop-node.node (restarted c.loop-node.node (lost.0.durable ∷ []) (Some c.args.epoch))) before.cores)

pub returns-then-stops-clause-begun : goal.returns-then-stops-clause-begun
returns-then-stops-clause-begun g c =
    let before = c.loop-node.invariant in
    (ask_step c.loop-node.node c.args.point (g.P.Power.begun c.args.power.now) (g.P.Power.begun c.loop-node.power) (g.P.Power.begun c.stops.new.self) (g.P.Power.asked c.args.power.now) (g.P.Power.asked c.loop-node.power) (g.P.Power.asked c.stops.new.self) before.asked c.stops.ensures.begun c.stops.ensures.asked).0

pub returns-then-stops-clause-later : goal.returns-then-stops-clause-later
returns-then-stops-clause-later g c behind =
    let before = c.loop-node.invariant in
    later_from g.P.Power c.args.power.now c.stops.new.self (c.loop-node.node + 1) c.args.point behind (counts_asked (g.P.Power.stops_seen) (g.P.Power.early_stops) (g.P.Power.stopped) c.args.power.now c.loop-node.power c.stops.new.self before.seen before.early before.stopped true (nat_le c.args.point 3) (λ n. n == c.loop-node.node) c.if-stops.ensures.seen c.if-stops.ensures.early c.if-stops.ensures.stopped) (ask_step c.loop-node.node c.args.point (g.P.Power.begun c.args.power.now) (g.P.Power.begun c.loop-node.power) (g.P.Power.begun c.stops.new.self) (g.P.Power.asked c.args.power.now) (g.P.Power.asked c.loop-node.power) (g.P.Power.asked c.stops.new.self) before.asked c.stops.ensures.begun c.stops.ensures.asked).0 (ask_step c.loop-node.node c.args.point (g.P.Power.begun c.args.power.now) (g.P.Power.begun c.loop-node.power) (g.P.Power.begun c.stops.new.self) (g.P.Power.asked c.args.power.now) (g.P.Power.asked c.loop-node.power) (g.P.Power.asked c.stops.new.self) before.asked c.stops.ensures.begun c.stops.ensures.asked).1

pub returns-in_err-lose_rows-clause-begun : goal.returns-in_err-lose_rows-clause-begun
returns-in_err-lose_rows-clause-begun g c =
    let before = c.loop-node.invariant in
    (ask_step c.loop-node.node c.args.point (g.P.Power.begun c.args.power.now) (g.P.Power.begun c.loop-node.power) (g.P.Power.begun c.stops.new.self) (g.P.Power.asked c.args.power.now) (g.P.Power.asked c.loop-node.power) (g.P.Power.asked c.stops.new.self) before.asked c.stops.ensures.begun c.stops.ensures.asked).0

pub returns-in_err-lose_rows-clause-later : goal.returns-in_err-lose_rows-clause-later
returns-in_err-lose_rows-clause-later g c behind =
    let before = c.loop-node.invariant in
    later_from g.P.Power c.args.power.now c.stops.new.self (c.loop-node.node + 1) c.args.point behind (counts_asked (g.P.Power.stops_seen) (g.P.Power.early_stops) (g.P.Power.stopped) c.args.power.now c.loop-node.power c.stops.new.self before.seen before.early before.stopped true (nat_le c.args.point 3) (λ n. n == c.loop-node.node) c.if-stops.ensures.seen c.if-stops.ensures.early c.if-stops.ensures.stopped) (ask_step c.loop-node.node c.args.point (g.P.Power.begun c.args.power.now) (g.P.Power.begun c.loop-node.power) (g.P.Power.begun c.stops.new.self) (g.P.Power.asked c.args.power.now) (g.P.Power.asked c.loop-node.power) (g.P.Power.asked c.stops.new.self) before.asked c.stops.ensures.begun c.stops.ensures.asked).0 (ask_step c.loop-node.node c.args.point (g.P.Power.begun c.args.power.now) (g.P.Power.begun c.loop-node.power) (g.P.Power.begun c.stops.new.self) (g.P.Power.asked c.args.power.now) (g.P.Power.asked c.loop-node.power) (g.P.Power.asked c.stops.new.self) before.asked c.stops.ensures.begun c.stops.ensures.asked).1

pub returns-then-stops-clause-asked : goal.returns-then-stops-clause-asked
returns-then-stops-clause-asked g c =
    let before = c.loop-node.invariant in
    let inside : c.loop-node.node < length c.loop-node.voters = omega (arith, c.loop-node-test.true, c.requires.voters, c.loop-node.auto.voters, c.requires.few) in
    let eight : c.loop-node.node < 8 = omega (arith, inside, c.loop-node.auto.voters, c.requires.voters, c.requires.few) in
    let within : c.loop-node.node < length c.args.cores.now = omega (arith, inside, c.loop-node.auto.voters, c.requires.voters) in
    (c.loop-node.node, within, stopped_told (g.P.Power.stops_seen) (g.P.Power.early_stops) (g.P.Power.stopped) c.args.power.now c.loop-node.power c.stops.new.self before.seen before.early before.stopped true (nat_le c.args.point 3) (λ n. n == c.loop-node.node) c.if-stops.ensures.seen c.if-stops.ensures.early c.if-stops.ensures.stopped c.loop-node.node eight (eq-eqb c.loop-node.node c.loop-node.node refl), (ask_step c.loop-node.node c.args.point (g.P.Power.begun c.args.power.now) (g.P.Power.begun c.loop-node.power) (g.P.Power.begun c.stops.new.self) (g.P.Power.asked c.args.power.now) (g.P.Power.asked c.loop-node.power) (g.P.Power.asked c.stops.new.self) before.asked c.stops.ensures.begun c.stops.ensures.asked).1)

pub returns-clause-begun : goal.returns-clause-begun
returns-clause-begun g c =
    let before = c.loop-node.invariant in
    let some : 0 < c.loop-node.node = omega (arith, c.loop-node-test.false, c.requires.some, c.requires.few, c.loop-node.auto.cores) in
    (was_all c.loop-node.node c.args.point (g.P.Power.begun c.args.power.now) (g.P.Power.begun c.loop-node.power) (g.P.Power.asked c.args.power.now) (g.P.Power.asked c.loop-node.power) some before.asked).0

pub returns-clause-later : goal.returns-clause-later
returns-clause-later g c behind =
    let before = c.loop-node.invariant in
    let some : 0 < c.loop-node.node = omega (arith, c.loop-node-test.false, c.requires.some, c.requires.few, c.loop-node.auto.cores) in
    later_from g.P.Power c.args.power.now c.loop-node.power c.loop-node.node c.args.point behind (counts_same g.P.Power.stops_seen g.P.Power.early_stops g.P.Power.stopped c.args.power.now c.loop-node.power before.seen before.early before.stopped) (was_all c.loop-node.node c.args.point (g.P.Power.begun c.args.power.now) (g.P.Power.begun c.loop-node.power) (g.P.Power.asked c.args.power.now) (g.P.Power.asked c.loop-node.power) some before.asked).0 (was_all c.loop-node.node c.args.point (g.P.Power.begun c.args.power.now) (g.P.Power.begun c.loop-node.power) (g.P.Power.asked c.args.power.now) (g.P.Power.asked c.loop-node.power) some before.asked).1

pub returns-clause-asked : goal.returns-clause-asked
returns-clause-asked g c =
    let before = c.loop-node.invariant in
    let some : 0 < c.loop-node.node = omega (arith, c.loop-node-test.false, c.requires.some, c.requires.few, c.loop-node.auto.cores) in
    let all : c.loop-node.node ≡ length c.args.cores.now = omega (arith, c.loop-node-test.false, c.loop-node.auto.cores, c.requires.few, c.loop-node.auto.node-end) in
    subst (λ (k : ℕ). AreAsked k c.args.point (g.P.Power.asked c.args.power.now) (g.P.Power.asked c.loop-node.power)) all (was_all c.loop-node.node c.args.point (g.P.Power.begun c.args.power.now) (g.P.Power.begun c.loop-node.power) (g.P.Power.asked c.args.power.now) (g.P.Power.asked c.loop-node.power) some before.asked).1
