use Rattle.std.proofs.Common.{arith, refl}
use Rattle.coco_chief.specs.Shown.{chief_of}
use Rattle.coco_letters.proofs.HearingLemmas.{counts_then}
use Rattle.coco_letters.proofs.TellingLemmas.{adds_left, adds_same, adds_then}
use Rattle.coco_letters.proofs.WorldLemmas.{goes_on_then, nothing_goes}
use Rattle.coco_vote.specs.Counting.{prepare_of}
use Rattle.coco_vote.proofs.PrepareLemmas.{asked_more}
use Rattle.coco_vote.proofs.TakingLemmas.{fresh_still}
use Rattle.coco_letters.proofs.SendingLemmas.{sends_fresh, sends_such, sends_then}
use Rattle.coco_vote.proofs.phase.ask_again.Goals as goal

pub loop-node-init : goal.loop-node-init
loop-node-init g c = record {
  asked = λ n less. absurd (omega (arith, less));
  says = adds_same (g.N.Net.sent c.args.net.now);
  world = λ cores core. nothing_goes (record { cores = cores; chief = core; sent = g.N.Net.sent c.args.net.now });
  counts = record { given_stays = refl; faults_stay = refl; seed_stays = refl };
}

pub ask_once_more-requires-clause-asked : goal.ask_once_more-requires-clause-asked
ask_once_more-requires-clause-asked g c = adds_left (g.N.Net.sent c.args.net.now) (g.N.Net.sent c.loop-node.net) (prepare_of c.loop-node.node c.args.epoch) c.loop-node.invariant.says (c.requires.asked c.loop-node.node c.loop-node-test.true)

pub loop-node-preserved : goal.loop-node-preserved
loop-node-preserved g c =
    let before = c.loop-node.invariant in
    record {
      asked = asked_more c.loop-node.node c.args.epoch (chief_of c.args.chief.now) (g.N.Net.fresh c.loop-node.net) (g.N.Net.fresh c.ask_once_more.new.net) before.asked c.in_ok-ask_once_more.ensures.asked
          (λ p among. fresh_still (g.N.Net.sent c.loop-node.net) (g.N.Net.fresh c.loop-node.net) (g.N.Net.sent c.ask_once_more.new.net) (g.N.Net.fresh c.ask_once_more.new.net) p c.in_ok-ask_once_more.ensures.fresh among);
      says = adds_then (g.N.Net.sent c.args.net.now) (g.N.Net.sent c.loop-node.net) (g.N.Net.sent c.ask_once_more.new.net) before.says c.in_ok-ask_once_more.ensures.says;
      world = λ cores core. goes_on_then (record { cores = cores; chief = core; sent = g.N.Net.sent c.args.net.now }) (record { cores = cores; chief = core; sent = g.N.Net.sent c.loop-node.net }) (record { cores = cores; chief = core; sent = g.N.Net.sent c.ask_once_more.new.net }) (before.world cores core) (c.in_ok-ask_once_more.ensures.world cores core);
      counts = counts_then (g.N.Net.given c.args.net.now) (g.N.Net.faults c.args.net.now) (g.N.Net.last_seed c.args.net.now) (g.N.Net.given c.loop-node.net) (g.N.Net.faults c.loop-node.net) (g.N.Net.last_seed c.loop-node.net) (g.N.Net.given c.ask_once_more.new.net) (g.N.Net.faults c.ask_once_more.new.net) (g.N.Net.last_seed c.ask_once_more.new.net) before.counts c.ask_once_more.ensures.counts;
    }

pub returns-in_err-ask_once_more-clause-counts : goal.returns-in_err-ask_once_more-clause-counts
returns-in_err-ask_once_more-clause-counts g c =
    let before = c.loop-node.invariant in
    counts_then (g.N.Net.given c.args.net.now) (g.N.Net.faults c.args.net.now) (g.N.Net.last_seed c.args.net.now) (g.N.Net.given c.loop-node.net) (g.N.Net.faults c.loop-node.net) (g.N.Net.last_seed c.loop-node.net) (g.N.Net.given c.ask_once_more.new.net) (g.N.Net.faults c.ask_once_more.new.net) (g.N.Net.last_seed c.ask_once_more.new.net) before.counts c.ask_once_more.ensures.counts

pub returns-in_err-ask_once_more-clause-sent : goal.returns-in_err-ask_once_more-clause-sent
returns-in_err-ask_once_more-clause-sent g c =
    sends_then (g.N.Net.sent c.args.net.now) (g.N.Net.sent c.loop-node.net) (g.N.Net.sent c.ask_once_more.new.net) (sends_such (g.N.Net.sent c.args.net.now) (g.N.Net.sent c.loop-node.net) c.loop-node.invariant.says) (sends_fresh (g.N.Net.sent c.loop-node.net) (g.N.Net.fresh c.loop-node.net) (g.N.Net.sent c.ask_once_more.new.net) (g.N.Net.fresh c.ask_once_more.new.net) c.ask_once_more.ensures.fresh)

pub returns-clause-sent : goal.returns-clause-sent
returns-clause-sent g c = sends_such (g.N.Net.sent c.args.net.now) (g.N.Net.sent c.loop-node.net) c.loop-node.invariant.says
