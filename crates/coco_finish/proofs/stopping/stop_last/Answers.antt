use Rattle.std.proofs.Common.{◌≡◌, ◌<◌, ◌≤◌, ◌^◌, ℕ, List, Some, length, get_or, refl, ◌∙◌, arith, lit≤}
use Rattle.std.specs.List.{slice_get}
use Rattle.std.proofs.Math.ListN.{set}
use Rattle.std.proofs.lemmas.Option.{slice_get-get_or}
use Rattle.coco_chief.specs.Chief.{Chief}
use Rattle.coco_letters.specs.declared.voter.Voter.{Voter}
use Rattle.coco_letters.specs.Worlds.{SameEntries, Scene}
use Rattle.coco_letters.proofs.TellingLemmas.{adds_same, adds_then}
use Rattle.coco_letters.proofs.WorldLemmas.{between_then}
use Rattle.coco_net.specs.declared.letter.Posted.{Posted}
use Rattle.coco_node.specs.Node.{Node}
use Rattle.coco_vote.proofs.PowerLemmas.{later_same, later_then}
use Rattle.coco_vote.proofs.WholeLemmas.{all_whole_same, all_whole_then, whole_set}
use Rattle.coco_vote.proofs.StepLemmas.{between_none, same_then}
use Rattle.coco_finish.proofs.StoppingLemmas.{asked_more, can_step, in_step_step, newest_step, says_step, some_none, some_step, waits_step}
use Rattle.coco_letters.proofs.OnlyLemmas.{only_then, sends_nothing}
use Rattle.coco_finish.proofs.stopping.stop_last.Goals as goal

pub loop-node-init : goal.loop-node-init
loop-node-init g c = record {
  stops = some_none c.args.epoch (g.P.Power.stopped c.args.power.now) c.args.cores.now c.args.voters.now (g.N.Net.sent c.args.net.now);
  whole = all_whole_same (g.P.Power.stops_seen c.args.power.now) c.args.voters.now;
  waits = λ n le. (refl, refl);
  counted = λ n le lt. refl;
  said = adds_same (g.N.Net.sent c.args.net.now);
  newest = c.requires.newest;
  can = λ can. can;
  in_step = λ chief marks step. step;
  early = refl;
  later = later_same g.P.Power c.args.power.now;
  asked = λ n less. absurd (omega (arith, less));
  world = λ chief. between_none (g.P.Power.stopped c.args.power.now) (g.P.Power.stopped c.args.power.now) (λ n lt. omega arith) SameEntries (record { cores = c.args.cores.now; chief = chief; sent = g.N.Net.sent c.args.net.now }) (λ w v same. same);
  sends = sends_nothing c.args.net.now;
}

pub loop-node-preserved : goal.loop-node-preserved
loop-node-preserved g c =
    let before = c.loop-node.invariant in
    let start = c.args in
    let now = c.loop-node in
    let after = c.stop_here.new in
    let did = c.in_ok-stop_here.ensures in
    let k : ℕ = c.loop-node.node in
    let e : ℕ = c.args.epoch in
    let voter : Voter = get_or c.loop-node.voters c.loop-node.node c.index-voters-node.result in
    let fits : c.args.epoch < 2 ^ 64 = omega (arith, c.ranges.epoch.fits) in
    let here : c.loop-node.node < length c.loop-node.cores = omega (arith, c.loop-node-test.true, c.loop-node.auto.cores, c.requires.few) in
    let inside : c.loop-node.node < length c.loop-node.voters = omega (arith, c.loop-node-test.true, c.requires.voters, c.loop-node.auto.voters, c.requires.few) in
    let eight : c.loop-node.node < 8 = omega (arith, here, c.loop-node.auto.cores, c.requires.few) in
    let same : c.loop-node.node ≤ c.loop-node.node = omega arith in
    let there : slice_get c.loop-node.voters c.loop-node.node ≡ Some (get_or c.loop-node.voters c.loop-node.node c.index-voters-node.result) = slice_get-get_or c.loop-node.voters c.loop-node.node c.index-voters-node.result inside in
    let scene : List Node → Chief → List Posted → Scene = λ cores chief sent. record { cores = cores; chief = chief; sent = sent } in
    record {
      stops = some_step e k (g.P.Power.stopped now.power) (g.P.Power.stopped after.power) now.cores voter (g.N.Net.sent now.net) after.cores after.voter (g.N.Net.sent after.net) here did.stops
          (g.P.Power.stopped start.power.now) start.cores.now start.voters.now (g.N.Net.sent start.net.now) now.voters there
          (λ n other le. c.stop_here.ensures.elsewhere n (omega (arith, le, eight)) other) before.stops (before.waits k same).0 (before.waits k same).1 (before.counted k same eight) inside;
      whole = all_whole_then (g.P.Power.stops_seen start.power.now) (g.P.Power.stops_seen now.power) (g.P.Power.stops_seen after.power) start.voters.now now.voters (set now.voters k after.voter) before.later.seen_rises c.stop_here.ensures.later.seen_rises before.whole
          (whole_set (g.P.Power.stops_seen now.power) (g.P.Power.stops_seen after.power) now.voters k voter after.voter there did.whole);
      waits = λ n le.
          let moved = waits_step e k (g.P.Power.stopped now.power) (g.P.Power.stopped after.power) now.cores voter (g.N.Net.sent now.net) after.cores after.voter (g.N.Net.sent after.net) here did.stops now.voters n le in
          let later : c.loop-node.node ≤ n = omega (arith, le) in
          (moved.0 ∙ (before.waits n later).0, moved.1 ∙ (before.waits n later).1);
      counted = λ n le lt. let later : c.loop-node.node ≤ n = omega (arith, le) in c.stop_here.ensures.elsewhere n lt (λ is. omega (arith, is, le)) ∙ before.counted n later lt;
      said = adds_then (g.N.Net.sent start.net.now) (g.N.Net.sent now.net) (g.N.Net.sent after.net) before.said
          (says_step e k (g.P.Power.stopped now.power) (g.P.Power.stopped after.power) now.cores voter (g.N.Net.sent now.net) after.cores after.voter (g.N.Net.sent after.net) here did.stops eight);
      newest = newest_step e k (g.P.Power.stopped now.power) (g.P.Power.stopped after.power) now.cores voter (g.N.Net.sent now.net) after.cores after.voter (g.N.Net.sent after.net) here did.stops before.newest;
      can = λ can. can_step e k (g.P.Power.stopped now.power) (g.P.Power.stopped after.power) now.cores voter (g.N.Net.sent now.net) after.cores after.voter (g.N.Net.sent after.net) here did.stops (before.can can);
      in_step = λ chief marks step. in_step_step e k (g.P.Power.stopped now.power) (g.P.Power.stopped after.power) now.cores voter (g.N.Net.sent now.net) after.cores after.voter (g.N.Net.sent after.net) here did.stops chief marks fits (before.in_step chief marks step);
      early = c.stop_here.ensures.early ∙ before.early;
      later = later_then g.P.Power start.power.now now.power after.power before.later c.stop_here.ensures.later;
      asked = asked_more k (g.P.Power.asked now.power) (g.P.Power.asked after.power) eight (λ n lt was. c.stop_here.ensures.later.asked_stays n 6 lt (lit≤ tt) was) before.asked c.stop_here.ensures.asked;
      world = λ chief. between_then SameEntries SameEntries SameEntries same_then (g.P.Power.stopped start.power.now) (g.P.Power.stopped now.power) (g.P.Power.stopped after.power)
          (scene start.cores.now chief (g.N.Net.sent start.net.now)) (scene now.cores chief (g.N.Net.sent now.net)) (scene after.cores chief (g.N.Net.sent after.net)) (before.world chief) (did.world chief);
      sends = only_then before.sends c.stop_here.ensures.sends;
    }

pub returns-in_err-stop_here-clause-sends : goal.returns-in_err-stop_here-clause-sends
returns-in_err-stop_here-clause-sends g c = only_then c.loop-node.invariant.sends c.stop_here.ensures.sends
