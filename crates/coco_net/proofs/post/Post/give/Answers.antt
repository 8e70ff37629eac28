use Rattle.std.proofs.Common.{◌≡◌, ◌++◌, ◌+◌, ap, ◌∙◌, cond, refl, sym, rules}
use Rattle.coco_net.specs.Mail.{MailState, given_more, picked}
use Rattle.coco_net.proofs.MailLemmas.{same_state}
use Rattle.coco_net.proofs.post.Post.give.Goals as goal

pub returns-then-loses-clause-ok : goal.returns-then-loses-clause-ok
returns-then-loses-clause-ok c =
    same_state _ _ refl (search rules) (search rules) (search rules) refl (sym (ap (λ b. cond b (c.self.inside.faults + 1) c.self.inside.faults) c.if-loses.true))
    ∙ ap (λ (s : MailState). given_more s (picked s.sent c.args.chosen.now) c.args.turns.now c.args.loses) c.self.view_is

pub returns-else-loses-clause-ok : goal.returns-else-loses-clause-ok
returns-else-loses-clause-ok c =
    same_state _ _ refl (search rules) (search rules) (search rules) refl (sym (ap (λ b. cond b (c.self.inside.faults + 1) c.self.inside.faults) c.if-loses.false))
    ∙ ap (λ (s : MailState). given_more s (picked s.sent c.args.chosen.now) c.args.turns.now c.args.loses) c.self.view_is
