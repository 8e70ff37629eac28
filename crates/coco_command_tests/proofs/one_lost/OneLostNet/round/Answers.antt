use Rattle.std.proofs.Common.{◌++◌, ap, arith}
use Rattle.coco_net.specs.Mail.{MailState, fresh, waiting_at}
use Rattle.coco_command_tests.proofs.LosingLemmas.{among_more, gives_for}
use Rattle.coco_command_tests.proofs.one_lost.OneLostNet.round.Goals as goal

pub returns-then-self-clause-ok : goal.returns-then-self-clause-ok
returns-then-self-clause-ok c =
    let before = c.args.self.now in
    gives_for before.net.post.sent (before.before.items ++ before.lost.items ++ before.after.items) (fresh before.net.post) before.newest.items before.net.post.faults c.round.new.self.post.faults before.faults 1 (waiting_at c.round.new.self.post) before.net.post.given c.round.new.self.post.given
    (among_more before.net.post.sent before.before.items before.lost.items before.after.items before.carried)
    (λ same. absurd (omega (arith, same, before.once c.if-self.true))) c.in_ok-round.ensures.ok

pub returns-else-self-clause-ok : goal.returns-else-self-clause-ok
returns-else-self-clause-ok c =
    let before = c.args.self.now in
    gives_for before.net.post.sent (before.before.items ++ before.lost.items ++ before.after.items) (fresh before.net.post) before.newest.items before.net.post.faults c.round.new.self.post.faults before.faults before.faults (waiting_at c.round.new.self.post) before.net.post.given c.round.new.self.post.given
    (among_more before.net.post.sent before.before.items before.lost.items before.after.items before.carried)
    (λ _. (ap (λ (s : MailState). s.faults) c.in_ok-round.ensures.quiet, before.whole c.if-self.false)) c.in_ok-round.ensures.ok
