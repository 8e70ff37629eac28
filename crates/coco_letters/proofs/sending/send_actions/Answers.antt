use Rattle.std.proofs.Common.{◌∙◌, take, drop}
use Rattle.coco_letters.specs.Saying.{posts_of}
use Rattle.coco_letters.proofs.HearingLemmas.{counts_then}
use Rattle.coco_letters.proofs.SayingLemmas.{posts_first, posts_more, say_at}
use Rattle.coco_letters.proofs.sending.send_actions.Goals as goal

pub send_action-requires-clause-messages : goal.send_action-requires-clause-messages
send_action-requires-clause-messages g c = say_at c.args.actions.now c.loop-action.action-index c.action-item.result c.requires.messages c.loop-action-test.true c.action-item.is

pub returns-in_err-send_action-clause-some : goal.returns-in_err-send_action-clause-some
returns-in_err-send_action-clause-some g c =
    let actions = c.args.actions.now in
    let i = c.loop-action.action-index in
    (posts_of c.args.from (take i actions), posts_of c.args.from (drop i actions), c.in_err-send_action.ensures.err.0 ∙ c.loop-action.invariant.sent, posts_first c.args.from actions i)

pub loop-action-preserved : goal.loop-action-preserved
loop-action-preserved g c =
    let actions = c.args.actions.now in
    let i = c.loop-action.action-index in
    let before = c.loop-action.invariant in
    let sends = c.in_ok-send_action.ensures in
    record {
      sent = posts_more c.args.from actions i c.action-item.result (g.N.Net.sent c.args.net.now) (g.N.Net.sent c.loop-action.net) (g.N.Net.sent c.send_action.new.net) c.loop-action-test.true c.action-item.is before.sent sends.sent;
      fresh = posts_more c.args.from actions i c.action-item.result (g.N.Net.fresh c.args.net.now) (g.N.Net.fresh c.loop-action.net) (g.N.Net.fresh c.send_action.new.net) c.loop-action-test.true c.action-item.is before.fresh sends.fresh;
      waiting = λ p. sends.waiting p ∙ before.waiting p;
      counts = counts_then (g.N.Net.given c.args.net.now) (g.N.Net.faults c.args.net.now) (g.N.Net.last_seed c.args.net.now) (g.N.Net.given c.loop-action.net) (g.N.Net.faults c.loop-action.net) (g.N.Net.last_seed c.loop-action.net)
          (g.N.Net.given c.send_action.new.net) (g.N.Net.faults c.send_action.new.net) (g.N.Net.last_seed c.send_action.new.net) before.counts sends.counts;
    }

pub returns-in_err-send_action-clause-grows : goal.returns-in_err-send_action-clause-grows
returns-in_err-send_action-clause-grows g c =
    record { posts = posts_of c.args.from (take c.loop-action.action-index c.args.actions.now); sent_is = c.in_err-send_action.ensures.err.0 ∙ c.loop-action.invariant.sent; fresh_is = c.in_err-send_action.ensures.err.1 ∙ c.loop-action.invariant.fresh }

pub returns-clause-grows : goal.returns-clause-grows
returns-clause-grows g c =
    record { posts = posts_of c.args.from (take c.loop-action.action-index c.args.actions.now); sent_is = c.loop-action.invariant.sent; fresh_is = c.loop-action.invariant.fresh }
