use Rattle.std.proofs.Common.{◌≤◌, arith, refl, ◌∙◌}
use Rattle.coco_letters.proofs.HearingLemmas.{counts_then, fresh_none}
use Rattle.coco_letters.proofs.WorldLemmas.{goes_on_then, nothing_goes}
use Rattle.coco_vote.proofs.EndingLemmas.{give_same, give_then, told_next}
use Rattle.coco_vote.proofs.StepLemmas.{fresh_then}
use Rattle.coco_vote.proofs.giving_up.all_take_end.Goals as goal

pub loop-node-init : goal.loop-node-init
loop-node-init g c = record {
  give_up = give_same c.args.epoch c.args.cores.now;
  told = λ n q less. absurd (omega (arith, less));
  waits = λ p le. refl;
  silent = refl;
  world = λ chief. nothing_goes (record { cores = c.args.cores.now; chief = chief; sent = (g.N.Net.sent c.args.net.now) });
  sent = c.requires.sent;
  fresh = fresh_none (g.N.Net.sent c.args.net.now) (g.N.Net.fresh c.args.net.now);
  counts = record { given_stays = refl; faults_stay = refl; seed_stays = refl };
}

pub take_end-requires-clause-sent : goal.take_end-requires-clause-sent
take_end-requires-clause-sent g c = c.loop-node.invariant.sent

pub loop-node-preserved : goal.loop-node-preserved
loop-node-preserved g c =
    let before = c.loop-node.invariant in
    record {
      give_up = give_then c.args.epoch c.args.cores.now c.loop-node.cores c.take_end.new.cores before.give_up c.in_ok-take_end.ensures.give_up;
      told = told_next c.args.epoch c.loop-node.node (g.N.Net.waiting c.args.net.now) (g.N.Net.waiting c.loop-node.net) c.loop-node.cores c.take_end.new.cores before.waits c.in_ok-take_end.ensures.give_up before.told c.in_ok-take_end.ensures.told;
      waits = λ p le. let less : c.loop-node.node ≤ p = omega (arith, le) in c.in_ok-take_end.ensures.others p (λ same. omega (arith, same, le)) ∙ before.waits p less;
      silent = c.in_ok-take_end.ensures.silent ∙ before.silent;
      world = λ chief. goes_on_then (record { cores = c.args.cores.now; chief = chief; sent = (g.N.Net.sent c.args.net.now) }) (record { cores = c.loop-node.cores; chief = chief; sent = (g.N.Net.sent c.loop-node.net) }) (record { cores = c.take_end.new.cores; chief = chief; sent = (g.N.Net.sent c.take_end.new.net) }) (before.world chief) (c.in_ok-take_end.ensures.world chief);
      sent = c.in_ok-take_end.ensures.sent;
      fresh = fresh_then (g.N.Net.sent c.args.net.now) (g.N.Net.fresh c.args.net.now) (g.N.Net.sent c.loop-node.net) (g.N.Net.fresh c.loop-node.net) (g.N.Net.sent c.take_end.new.net) (g.N.Net.fresh c.take_end.new.net) before.fresh c.in_ok-take_end.ensures.fresh;
      counts = (counts_then (g.N.Net.given c.args.net.now) (g.N.Net.faults c.args.net.now) (g.N.Net.last_seed c.args.net.now) (g.N.Net.given c.loop-node.net) (g.N.Net.faults c.loop-node.net) (g.N.Net.last_seed c.loop-node.net) (g.N.Net.given c.take_end.new.net) (g.N.Net.faults c.take_end.new.net) (g.N.Net.last_seed c.take_end.new.net) before.counts c.take_end.ensures.counts);
    }

pub returns-in_err-take_end-clause-counts : goal.returns-in_err-take_end-clause-counts
returns-in_err-take_end-clause-counts g c =
    let before = c.loop-node.invariant in
    (counts_then (g.N.Net.given c.args.net.now) (g.N.Net.faults c.args.net.now) (g.N.Net.last_seed c.args.net.now) (g.N.Net.given c.loop-node.net) (g.N.Net.faults c.loop-node.net) (g.N.Net.last_seed c.loop-node.net) (g.N.Net.given c.take_end.new.net) (g.N.Net.faults c.take_end.new.net) (g.N.Net.last_seed c.take_end.new.net) before.counts c.take_end.ensures.counts)

pub returns-clause-told : goal.returns-clause-told
returns-clause-told g c = λ n q less among from. c.loop-node.invariant.told n q (omega (arith, less, c.loop-node-test.false, c.loop-node.auto.cores, c.requires.few)) among from

pub returns-in_err-take_end-clause-fresh : goal.returns-in_err-take_end-clause-fresh
returns-in_err-take_end-clause-fresh g c =
    fresh_then (g.N.Net.sent c.args.net.now) (g.N.Net.fresh c.args.net.now) (g.N.Net.sent c.loop-node.net) (g.N.Net.fresh c.loop-node.net) (g.N.Net.sent c.take_end.new.net) (g.N.Net.fresh c.take_end.new.net) (c.loop-node.invariant.fresh) (c.take_end.ensures.fresh)
