use Rattle.std.proofs.Common.{◌+◌, ◌∙◌, ap, cond, map, sym, rules}
use Rattle.coco_net.specs.Mail.{MailState, fresh, given_more, picked}
use Rattle.coco_net.proofs.MailLemmas.{given_apart}
use Rattle.coco_net.proofs.fresh_post.FreshPost.give.Goals as goal

pub returns-then-loses-clause-ok : goal.returns-then-loses-clause-ok
returns-then-loses-clause-ok c =
    given_apart c.self.inside.before.items c.self.inside.fresh.items c.self.inside.given.items _ _ _ _ (map (λ q. q.items) c.self.inside.boxes.items) c.args.chosen.now c.args.turns.now _ c.self.inside.faults _ c.args.loses (search rules) (search rules) (search rules) (search rules)
    (sym (ap (λ b. cond b (c.self.inside.faults + 1) c.self.inside.faults) c.if-loses.true))
    ∙ ap (λ (s : MailState). given_more s (picked (fresh s) c.args.chosen.now) c.args.turns.now c.args.loses) c.self.view_is

pub returns-else-loses-clause-ok : goal.returns-else-loses-clause-ok
returns-else-loses-clause-ok c =
    given_apart c.self.inside.before.items c.self.inside.fresh.items c.self.inside.given.items _ _ _ _ (map (λ q. q.items) c.self.inside.boxes.items) c.args.chosen.now c.args.turns.now _ c.self.inside.faults _ c.args.loses (search rules) (search rules) (search rules) (search rules)
    (sym (ap (λ b. cond b (c.self.inside.faults + 1) c.self.inside.faults) c.if-loses.false))
    ∙ ap (λ (s : MailState). given_more s (picked (fresh s) c.args.chosen.now) c.args.turns.now c.args.loses) c.self.view_is
