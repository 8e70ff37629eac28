use Rattle.std.proofs.Common.{◌<◌, ◌≤◌, ℕ, refl, ◌∙◌, arith}
use Rattle.coco_letters.proofs.HearingLemmas.{counts_then, fresh_none}
use Rattle.coco_letters.proofs.TakingLemmas.{fresh_then}
use Rattle.coco_finish.proofs.LoopLemmas.{answers_more, taken_more}
use Rattle.coco_finish.proofs.PhaseLemmas.{tables_same, tables_then, taken_same, taken_then}
use Rattle.coco_finish.proofs.taking.nodes_finish.Goals as goal

pub finish_at-requires-clause-whole : goal.finish_at-requires-clause-whole
finish_at-requires-clause-whole g c = c.loop-node.invariant.keep.whole

pub finish_at-requires-clause-can : goal.finish_at-requires-clause-can
finish_at-requires-clause-can g c = c.loop-node.invariant.done.can

pub returns-in_err-finish_at-clause-keep : goal.returns-in_err-finish_at-clause-keep
returns-in_err-finish_at-clause-keep g c = tables_then c.loop-node.invariant.keep c.finish_at.ensures.keep

pub loop-node-init : goal.loop-node-init
loop-node-init g c = record {
  done = taken_same c.args.epoch c.args.cores.now c.args.tables.now c.args.net.now c.requires.can;
  keep = tables_same c.args.tables.now c.requires.whole;
  answers = λ n q less. absurd (omega (arith, less));
  sent = c.requires.sent;
  taken = λ n less. absurd (omega (arith, less));
  waits = λ p le. refl;
  fresh = fresh_none (g.N.Net.sent c.args.net.now) (g.N.Net.fresh c.args.net.now);
  counts = record { given_stays = refl; faults_stay = refl; seed_stays = refl };
}

pub finish_at-requires-clause-behind : goal.finish_at-requires-clause-behind
finish_at-requires-clause-behind g c = omega (arith, c.loop-node.invariant.keep.behind, c.loop-node.auto.cores, c.requires.behind)

pub loop-node-preserved : goal.loop-node-preserved
loop-node-preserved g c =
    let before = c.loop-node.invariant in
    let start = c.args in
    let now = c.loop-node in
    let after = c.finish_at.new in
    let did = c.in_ok-finish_at.ensures in
    let e : ℕ = c.args.epoch in
    record {
      done = taken_then before.done did.done;
      keep = tables_then before.keep c.finish_at.ensures.keep;
      answers = answers_more e c.loop-node.node (g.N.Net.waiting start.net.now) (g.N.Net.waiting now.net) (g.N.Net.sent now.net) (g.N.Net.fresh now.net) (g.N.Net.sent after.net) (g.N.Net.fresh after.net) did.fresh
          (before.waits c.loop-node.node (omega arith)) before.answers did.answers;
      sent = did.sent;
      taken = taken_more c.loop-node.node (g.N.Net.waiting now.net) (g.N.Net.waiting after.net) before.taken did.taken c.finish_at.ensures.others;
      waits = λ p le. let less : c.loop-node.node ≤ p = omega (arith, le) in c.finish_at.ensures.others p (λ same. omega (arith, same, le)) ∙ before.waits p less;
      fresh = fresh_then (g.N.Net.sent start.net.now) (g.N.Net.fresh start.net.now) (g.N.Net.sent now.net) (g.N.Net.fresh now.net) (g.N.Net.sent after.net) (g.N.Net.fresh after.net) before.fresh did.fresh;
      counts = counts_then (g.N.Net.given start.net.now) (g.N.Net.faults start.net.now) (g.N.Net.last_seed start.net.now) (g.N.Net.given now.net) (g.N.Net.faults now.net) (g.N.Net.last_seed now.net)
          (g.N.Net.given after.net) (g.N.Net.faults after.net) (g.N.Net.last_seed after.net) before.counts c.finish_at.ensures.counts;
    }

pub returns-in_err-finish_at-clause-others : goal.returns-in_err-finish_at-clause-others
returns-in_err-finish_at-clause-others g c = λ p le.
    let above : c.loop-node.node < p = omega (arith, le, c.loop-node-test.true, c.requires.few, c.loop-node.auto.cores) in
    c.finish_at.ensures.others p (λ same. omega (arith, same, above)) ∙ c.loop-node.invariant.waits p (omega (arith, above))

pub returns-clause-answers : goal.returns-clause-answers
returns-clause-answers g c = λ n l less. c.loop-node.invariant.answers n l (let below : n < c.loop-node.node = omega (arith, less, c.loop-node-test.false, c.requires.few, c.loop-node.auto.cores) in below)

pub returns-clause-taken : goal.returns-clause-taken
returns-clause-taken g c = λ n less. c.loop-node.invariant.taken n (let below : n < c.loop-node.node = omega (arith, less, c.loop-node-test.false, c.requires.few, c.loop-node.auto.cores) in below)

pub returns-clause-others : goal.returns-clause-others
returns-clause-others g c = λ p le. c.loop-node.invariant.waits p (let above : c.loop-node.node ≤ p = omega (arith, le, c.loop-node-test.false, c.requires.few, c.loop-node.auto.cores) in above)

pub returns-in_err-finish_at-clause-fresh : goal.returns-in_err-finish_at-clause-fresh
returns-in_err-finish_at-clause-fresh g c =
    fresh_then (g.N.Net.sent c.args.net.now) (g.N.Net.fresh c.args.net.now) (g.N.Net.sent c.loop-node.net) (g.N.Net.fresh c.loop-node.net) (g.N.Net.sent c.finish_at.new.net) (g.N.Net.fresh c.finish_at.new.net) (c.loop-node.invariant.fresh) (c.finish_at.ensures.fresh)
